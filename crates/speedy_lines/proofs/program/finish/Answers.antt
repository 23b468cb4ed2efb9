use Rattle.std.proofs.Common.{sym}
use Rattle.speedy.specs.Error.{passed_on}
use Rattle.speedy_lines.proofs.RunLemmas.{not_empty, is_empty, last_failed, last_answered, nothing_left}
use Rattle.speedy_lines.proofs.program.finish.Goals as goal

pub returns-in_err-push_answer : goal.returns-in_err-push_answer
returns-in_err-push_answer g c =
    rw (sym (passed_on c.from_residual.result _ c.from_residual.ensures.1))
    (record {
      answers = last_failed _ _ _ _ c.requires (not_empty _ c.if-is_empty.ensures) c.in_err-push_answer.ensures;
      settled = tt;
    })

pub returns : goal.returns
returns g c =
    let pushed = c.in_ok-push_answer.ensures in
    record {
      answers = last_answered _ _ _ _ _ c.requires (not_empty _ c.if-is_empty.ensures) pushed.kept pushed.no_fault
          pushed.all c.flush-2.ensures.answers;
      settled = c.flush-2.ensures.settled;
    }

pub returns-then-is_empty : goal.returns-then-is_empty
returns-then-is_empty g c = record {
  answers = nothing_left _ _ _ _ (is_empty _ c.if-is_empty.ensures) c.flush.ensures.answers;
  settled = c.flush.ensures.settled;
}
