use Rattle.std.specs.Prelude.{length, drop}
use Rattle.std.proofs.Common.{sym, ap, arith}
use Rattle.std.proofs.lemmas.List.{length-map}
use Rattle.speedy.specs.CollectorLemmas.{put_in_front}
use Rattle.speedy.specs.Lists.{repeat}
use Rattle.speedy_tests.proofs.round_trips.slice_again.Goals as goal

pub returns : goal.returns
unfolding repeat
returns g c =
    let put = c.in_ok-outcome.ensures.answer in
    let made = c.new-collector.ensures in
    let fixed = c.in_ok-outcome.ensures.kept.fixed in
    let same_name = made.same_buffer in
    let finished = c.finish.ensures.buffer in
    let prefix = put_in_front made.position made.buffer put.is_appended in
    (c.written_items_are_read.ensures.made put.bytes {rest = drop (length put.bytes) c.args.buffer.now} put.is_written.1
    (sym (length-map _ _)) (grind (arith, prefix)) c.new-reader.ensures.state
    (ap g.C.Context.mode (sym made.context)) c.read_vec.ensures.reads).same
