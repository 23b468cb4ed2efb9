use Rattle.std.proofs.Common.{sym, ◌∙◌}
use Rattle.speedy_read.proofs.GrowingLemmas.{some_refused, some_read, none_read}
use Rattle.speedy_read.proofs.whole.read_some.Goals as goal

pub returns-in_err-value : goal.returns-in_err-value
returns-in_err-value g c = some_refused _ c.from_residual.ensures.1 c.in_err-value.ensures

pub returns-then-left : goal.returns-then-left
returns-then-left g c =
    none_read _ c.in_ok-value.ensures (g.met.R.MemoryReader.in_memory _) (g.A.Layout.layout.laws _)
    (sym c.left.ensures ∙ (c.if-left.true ∙ c.left-left.ensures)) c.error_out_of_range_length.ensures

pub returns : goal.returns
returns g c =
    some_read _ c.in_ok-value.ensures (g.met.R.MemoryReader.in_memory _)
    (λ same. c.if-left.false (c.left.ensures ∙ (same ∙ sym c.left-left.ensures)))
