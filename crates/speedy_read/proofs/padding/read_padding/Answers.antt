use Rattle.speedy_read.specs.Codes.{demanded, not_demanded}
use Rattle.speedy_read.proofs.PaddingLemmas.{padding_not_written, padding_read, padding_refused}
use Rattle.speedy_read.proofs.padding.read_padding.Goals.{
  else-not-is_written-via-then-not-is_written+else-demands_written_form,
  else-not-is_written-via-else-not-is_written,
}
use Rattle.speedy_read.proofs.padding.read_padding.Goals as goal

pub returns-in_err-is_written : goal.returns-in_err-is_written
returns-in_err-is_written g c = padding_refused _ _ c.from_residual.ensures.1 c.in_err-is_written.ensures

pub returns-then-demands_written_form : goal.returns-then-demands_written_form
returns-then-demands_written_form g c =
    padding_not_written _ _
    (demanded c.in_ok-is_written.ensures.kept.mode c.demands_written_form.ensures c.if-demands_written_form.true)
    c.if-not-is_written.true c.error_not_written_form.ensures c.in_ok-is_written.ensures

pub returns : goal.returns
returns g c =
    padding_read _ _ (λ strict. elim c.else-not-is_written.branch [
      | else-not-is_written-via-then-not-is_written+else-demands_written_form w ↦
          absurd (not_demanded c.in_ok-is_written.ensures.kept.mode w.demands_written_form.ensures
          w.if-demands_written_form.false strict)
      | else-not-is_written-via-else-not-is_written w ↦ w.if-not-is_written.false
    ]) c.in_ok-is_written.ensures
