use Rattle.std.proofs.Common.{◌∙◌, drop, arith, ℕ}
use Rattle.std.proofs.lemmas.List.{length-append, length-drop, length-replicate, length-take-le}
use Rattle.speedy_layout.specs.Padding.{zeros}
use Rattle.speedy_read.proofs.ByteLemmas.{prefix_of}
use Rattle.speedy_read.proofs.ConstantLemmas.{chunk_compared}
use Rattle.speedy_read.proofs.PaddingLemmas.{test_refused, next_zeros}
use Rattle.speedy_read.proofs.padding.read_zeros.Goals as goal

pub returns-in_err-read_bytes : goal.returns-in_err-read_bytes
returns-in_err-read_bytes g c =
    let size = length-take-le c.min-size.result c.loop-at.chunk (omega (arith, c.loop-at.invariant.1)) in
    test_refused c.args.count c.loop-at.at _ (omega (arith, size)) c.loop-at.invariant.2 c.from_residual.ensures.1
    c.in_err-read_bytes.ensures

pub loop-at-preserved : goal.loop-at-preserved
loop-at-preserved g c =
    let size = length-take-le c.min-size.result c.loop-at.chunk (omega (arith, c.loop-at.invariant.1)) in (
      omega arith,
      length-append c.read_bytes.new.output (drop c.min-size.result c.loop-at.chunk)
          ∙ omega (arith, c.read_bytes.auto.output, length-drop c.min-size.result c.loop-at.chunk, size),
      chunk_compared (zeros c.args.count) c.loop-at.at _ _ size
          (omega (arith, length-replicate {A = ℕ} c.args.count 0)) c.loop-at.invariant.2 c.in_ok-read_bytes.ensures
          (prefix_of c.min-size.result c.read_bytes.new.output (drop c.min-size.result c.loop-at.chunk)
          (c.read_bytes.auto.output ∙ size))
          (next_zeros c.args.count c.loop-at.at c.min-size.result 64 (omega arith) (omega arith))
          c.are_still_the_same-are.ensures,
    )
