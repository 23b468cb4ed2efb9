use Rattle.std.proofs.Common.{refl, arith}
use Rattle.speedy_base.specs.declared.error.ErrorKind.TheVariants as kinds
use Rattle.speedy_layout.specs.Leaves.{duration_code, duration_reads_wider, seconds_and_nanos_codec}
use Rattle.speedy_read.specs.Codes.{code_refused, code_read, code_means_nothing, code_not_written, demanded}
use Rattle.speedy_read.specs.Codes.{not_demanded}
use Rattle.speedy_read.proofs.leaves.DurationReadFrom.read_from.Goals as goal

pub returns-in_err-seconds : goal.returns-in_err-seconds
returns-in_err-seconds g c = code_refused _ duration_code c.from_residual.ensures.1 c.in_err-seconds.ensures

pub returns-then-is_written : goal.returns-then-is_written
returns-then-is_written g c =
    let e = c.new.ensures in
    code_read _ duration_code (e, omega arith) (λ _. (e, omega arith, c.if-is_written.true)) c.in_ok-seconds.ensures

pub returns-then-demands_written_form : goal.returns-then-demands_written_form
returns-then-demands_written_form g c =
    let parts = c.in_ok-seconds.ensures in
    code_not_written _ duration_code (seconds_and_nanos_codec.laws _) duration_reads_wider
    (demanded parts.kept.mode c.demands_written_form.ensures c.if-demands_written_form.true)
    (λ n h. let less = h.2 in let more = c.if-is_written.false in omega arith) c.error_not_written_form.ensures parts

pub returns-then-seconds-carried : goal.returns-then-seconds-carried
returns-then-seconds-carried g c =
    code_means_nothing _ duration_code (seconds_and_nanos_codec.laws _) (λ n h. (h.0, h.1))
    (λ n h. let e = h.0 in let fits = h.1 in omega arith)
    (kinds.InvalidSystemTime, refl, c.error_invalid_system_time.ensures) c.in_ok-seconds.ensures

pub returns : goal.returns
returns g c =
    let parts = c.in_ok-seconds.ensures in
    let e = c.new-2.ensures in
    code_read _ duration_code (e, omega arith)
    (λ strict. absurd
    (not_demanded parts.kept.mode c.demands_written_form.ensures c.if-demands_written_form.false strict)) parts
