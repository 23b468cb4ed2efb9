use Rattle.std.proofs.Common.{arith}
use Rattle.speedy_read.proofs.WholeLemmas.{value_refused, value_left, value_whole}
use Rattle.speedy_read.proofs.whole.EndsItselfReadsEnding.read_ending.Goals as goal

pub returns-in_err-value : goal.returns-in_err-value
returns-in_err-value g c =
    let memory = g.met.R.MemoryReader.in_memory in
    value_refused (g.T.Layout.layout.laws _) c.from_residual.ensures.1 (memory _) (memory _) c.in_err-value.ensures

pub returns-then-left-gt0 : goal.returns-then-left-gt0
returns-then-left-gt0 g c =
    let left = c.left.ensures in
    let some = c.if-left-gt0.true in
    value_left (g.T.Layout.layout.laws _) (g.met.R.MemoryReader.in_memory _) c.in_ok-value.ensures (omega arith)
    c.error_out_of_range_length.ensures

pub returns : goal.returns
returns g c =
    let left = c.left.ensures in
    let none = c.if-left-gt0.false in
    value_whole (g.T.Layout.layout.laws _) (g.met.R.MemoryReader.in_memory _) c.in_ok-value.ensures (omega arith)
