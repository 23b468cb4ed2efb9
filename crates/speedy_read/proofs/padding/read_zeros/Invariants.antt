use Rattle.std.proofs.Common.{◌≡◌, ◌-◌, ◌≤◌, length}
use Rattle.speedy_layout.specs.Padding.{zeros}
use Rattle.speedy_read.proofs.ConstantLemmas.{ComparedSoFar}
use Rattle.speedy_read.proofs.padding.read_zeros.Given as goal

abbrev pub invariant-loop-at : goal.invariant-loop-at
invariant-loop-at g l =
    (l.at ≤ l.count) × (length l.chunk ≡ 64)
    × ComparedSoFar (zeros l.count) l.at l.are (g.R.LendingReader.state l.fn.reader)
    (g.R.LendingReader.state l.reader)

abbrev pub decreases-loop-at : goal.decreases-loop-at
decreases-loop-at g l = l.count - l.at
