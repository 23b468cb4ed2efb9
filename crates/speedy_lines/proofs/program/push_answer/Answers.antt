use Rattle.std.proofs.Common.{◌≡◌, ap, arith, rules, sym}
use Rattle.speedy.specs.Error.{passed_on}
use Rattle.speedy_lines.proofs.RunLemmas.{pushed_answer, no_memory_at_first}
use Rattle.speedy_lines.proofs.program.push_answer.Goals as goal

pub returns : goal.returns
returns g c =
    let e : c.deref.result.now ≡ c.in_ok-answer.answer.items = search rules in
    let made = c.new-writer.ensures in
    let same_name = made.same_sink in
    let given_name = c.into_sink.ensures.same_sink in
    let given = c.into_sink.ensures.sink in
    let wrote = c.write_bytes-outcome.ensures in
    pushed_answer _ _ _ _ _ (ap g.W.Sink.sink made.sink) (ap g.W.Sink.sink (grind arith)) c.in_ok-answer.ensures
    (rw e at wrote.writes) wrote.error

pub returns-in_err-answer : goal.returns-in_err-answer
returns-in_err-answer g c =
    rw (sym (passed_on c.from_residual.result _ c.from_residual.ensures.1))
    (no_memory_at_first _ _ _ _ c.in_err-answer.ensures)
