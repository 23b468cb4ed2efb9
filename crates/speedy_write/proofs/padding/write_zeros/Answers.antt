use Rattle.std.proofs.Common.{arith}
use Rattle.std.proofs.lemmas.List.{take-replicate}
use Rattle.speedy_layout.specs.Codecs.{unsigned_codec}
use Rattle.speedy_write.proofs.ListLemmas.{no_items_written}
use Rattle.speedy_write.proofs.PaddingLemmas.{later_zeros_refused, more_zeros_written}
use Rattle.speedy_write.proofs.padding.write_zeros.Goals as goal

pub loop-at-init : goal.loop-at-init
loop-at-init g c = (omega arith, no_items_written (unsigned_codec 1).format (λ b. b) (g.met.W.Writer.nothing _))

pub loop-at-preserved : goal.loop-at-preserved
loop-at-preserved g c = (
  omega arith,
  more_zeros_written (g.met.W.Writer.additive _ _ _) c.loop-at.at c.min-size.result
      (take-replicate c.min-size.result 64 0 (omega arith)) c.loop-at.invariant.1 c.in_ok-write_slice.ensures,
)

pub returns-in_err-write_slice : goal.returns-in_err-write_slice
returns-in_err-write_slice g c =
    later_zeros_refused (g.met.W.Writer.additive _ _ _) c.loop-at.at c.min-size.result
    (take-replicate c.min-size.result 64 0 (omega arith)) c.loop-at.invariant.1 c.args.count (omega arith)
    c.from_residual.ensures.1 c.in_err-write_slice.ensures
