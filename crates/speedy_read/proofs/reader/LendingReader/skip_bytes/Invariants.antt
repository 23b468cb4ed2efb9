use Rattle.std.proofs.Common.{◌≡◌, ◌-◌, ◌≤◌, length}
use Rattle.speedy_read.proofs.ByteLemmas.{SkippedSoFar}
use Rattle.speedy_read.proofs.reader.LendingReader.skip_bytes.Given as goal

abbrev pub invariant-loop-left : goal.invariant-loop-left
invariant-loop-left g l = (l.left ≤ l.length) × (length l.chunk ≡ 1024) × SkippedSoFar (l.length - l.left)
    (g.Self.LendingReader.state l.fn.self) (g.Self.LendingReader.state l.self) × (l.length ≡ 0 → l.self ≡ l.fn.self)

abbrev pub decreases-loop-left : goal.decreases-loop-left
decreases-loop-left g l = l.left
