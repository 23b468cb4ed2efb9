use Rattle.std.proofs.Common.{sym, ◌∙◌, ap}
use Rattle.speedy.specs.Error.{kind_of, passed_on}
use Rattle.speedy_examples.proofs.NextLemmas.{peeked_end, peek_refused, read_refused, ended_by_failure, not_ended}
use Rattle.speedy_examples.proofs.streams.next_or_end.Goals as goal

pub returns-in-UnexpectedEndOfInput-clause-next : goal.returns-in-UnexpectedEndOfInput-clause-next
returns-in-UnexpectedEndOfInput-clause-next g c =
    peeked_end c.in-Err.ensures (sym c.get_error_kind.ensures ∙ c.in-UnexpectedEndOfInput.is)

pub returns-in_err-read_value-in-Ok-clause-refused : goal.returns-in_err-read_value-in-Ok-clause-refused
returns-in_err-read_value-in-Ok-clause-refused g c =
    rw (← passed_on _ _ c.from_residual.ensures.1) (read_refused c.in-Ok.ensures c.in_err-read_value-in-Ok.ensures)

pub returns-in_err-read_value-in-Ok-clause-ended : goal.returns-in_err-read_value-in-Ok-clause-ended
returns-in_err-read_value-in-Ok-clause-ended g c = λ told _ none. absurd (not_ended c.in-Ok.ensures told.tells none)

pub returns-in_default-clause-refused : goal.returns-in_default-clause-refused
returns-in_default-clause-refused g c = peek_refused c.in-Err.ensures

pub returns-in_default-clause-ended : goal.returns-in_default-clause-ended
returns-in_default-clause-ended g c = λ _ tells_faults _. ended_by_failure tells_faults
    (λ is. c.in_default.not-UnexpectedEndOfInput (c.get_error_kind.ensures ∙ ap kind_of is)) c.in-Err.ensures
