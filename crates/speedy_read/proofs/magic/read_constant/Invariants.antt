use Rattle.std.specs.Prelude.{IsTrue}
use Rattle.std.proofs.Common.{◌≡◌, ◌-◌, ◌≤◌, [], length}
use Rattle.speedy_read.proofs.ConstantLemmas.{ComparedSoFar}
use Rattle.speedy_read.proofs.magic.read_constant.Given as goal

abbrev pub invariant-loop-at : goal.invariant-loop-at
invariant-loop-at g l =
    (l.at ≤ length l.constant) × (length l.chunk ≡ 64)
    × ComparedSoFar l.constant l.at l.same (g.R.LendingReader.state l.fn.reader) (g.R.LendingReader.state l.reader)
    × (l.constant ≡ [] → (l.reader ≡ l.fn.reader) × IsTrue l.same)

abbrev pub decreases-loop-at : goal.decreases-loop-at
decreases-loop-at g l = length l.constant - l.at
