use Rattle.std.proofs.Common.{ap, refl, arith}
use Rattle.speedy_write.proofs.BufferingLemmas.{gathered_pushed, gathered_refused}
use Rattle.speedy_write.proofs.StreamLemmas.{stream_written}
use Rattle.speedy_write.proofs.writable.write_gathered.Goals as goal

pub returns-in-Ok : goal.returns-in-Ok
returns-in-Ok g c =
    let made = c.new-collector.ensures in
    let written = rw made.nothing_waits at c.in-Ok.ensures in
    let outcome = c.push_waiting-outcome.result in
    let writer = c.write_to.new.writer in
    let fixed = c.in-Ok.ensures.kept.fixed in
    let same_name = made.same_sink in
    let pushed_name = c.push_waiting-outcome.ensures.same_sink in
    let given_name = c.into_sink.ensures.same_sink in
    let given = c.into_sink.ensures.sink in
    stream_written (g.T.Layout.layout.laws _) {other = g.C.Context.mode writer.context}
    {other_name = writer.sink.ghost_name} _ _ (ap g.C.Context.mode made.context) (ap g.S.Sink.sink made.sink)
    (ap g.S.Sink.sink (grind arith)) outcome
    (gathered_pushed outcome written c.push_waiting-outcome.ensures.pushes)

pub returns-in-Err : goal.returns-in-Err
returns-in-Err g c =
    let made = c.new-collector.ensures in
    let refused = rw made.nothing_waits at c.in-Err.ensures in
    let writer = c.write_to.new.writer in
    let fixed = c.in-Err.ensures.kept.fixed in
    let same_name = made.same_sink in
    let given_name = c.into_sink-in-Err.ensures.same_sink in
    let given = c.into_sink-in-Err.ensures.sink in
    stream_written (g.T.Layout.layout.laws _) {other = g.C.Context.mode writer.context}
    {other_name = writer.sink.ghost_name} _ _ (ap g.C.Context.mode made.context) (ap g.S.Sink.sink made.sink)
    (ap g.S.Sink.sink (grind arith)) _ (gathered_refused refl refused)
