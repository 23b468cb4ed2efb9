use Rattle.std.proofs.Common.{◌<◌, length, refl, arith, sym}
use Rattle.speedy.specs.Error.{passed_on}
use Rattle.speedy_lines.proofs.RunLemmas.{none_run, more_run, piece_failed, input_ended, pull_failed, too_long}
use Rattle.speedy_lines.proofs.program.run.Goals as goal

pub loop-i-init : goal.loop-i-init
loop-i-init g c = none_run _ _ _ c.new-pending.ensures.items

pub loop-i-preserved : goal.loop-i-preserved
loop-i-preserved g c =
    let piece = c.in_ok-answer_piece.ensures in
    more_run _ _ _ _ _ _ _ _ c.loop-i.invariant _ _ _ c.in-Ok.ensures refl _ _ c.if-count-eq0.false
    piece.waits piece.answers

pub returns : goal.returns
returns g c = too_long _ _ _ _ _ _ _ c.loop-i.invariant c.loop-i-test.false c.error_out_of_range_length.ensures

pub returns-in-Err : goal.returns-in-Err
returns-in-Err g c = pull_failed _ _ _ _ _ _ _ _ _ _ c.loop-i.invariant c.from_io_error.ensures c.in-Err.ensures

pub returns-then-count-eq0 : goal.returns-then-count-eq0
returns-then-count-eq0 g c =
    let room : 0 < length c.pull.new.output = omega arith in
    input_ended _ _ _ _ _ _ _ (g.W.Sink.sink c.finish.new.output) c.loop-i.invariant _ _ _ c.in-Ok.ensures
    c.if-count-eq0.true room (rw c.deref.ensures.value at c.finish.ensures.answers) c.finish.ensures.settled

pub returns-in_err-answer_piece : goal.returns-in_err-answer_piece
returns-in_err-answer_piece g c =
    rw (sym (passed_on c.from_residual.result _ c.from_residual.ensures.1))
    (piece_failed _ _ _ _ _ _ _ _ c.loop-i.invariant _ _ _ c.in-Ok.ensures refl _ _
    c.in_err-answer_piece.ensures.answers)
