use Rattle.std.proofs.Common.{◌≡◌, ◌-◌, ◌≤◌, length}
use Rattle.speedy_read.proofs.ByteLemmas.{BytesSoFar}
use Rattle.speedy_read.proofs.bulk.read_byte_chunks.Given as goal

abbrev pub invariant-loop-left : goal.invariant-loop-left
invariant-loop-left g l =
    (l.left ≤ l.length) × (length l.bytes.items ≡ l.length - l.left)
    × BytesSoFar l.bytes.items (g.R.LendingReader.state l.fn.reader) (g.R.LendingReader.state l.reader)

abbrev pub decreases-loop-left : goal.decreases-loop-left
decreases-loop-left g l = l.left
