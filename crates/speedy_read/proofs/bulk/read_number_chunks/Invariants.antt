use Rattle.std.proofs.Common.{◌≡◌, ◌-◌, ◌≤◌, length, map}
use Rattle.speedy_layout.specs.Format.{Each}
use Rattle.speedy_read.specs.ReadingLemmas.{ReadSoFar}
use Rattle.speedy_read.proofs.bulk.read_number_chunks.Given as goal

abbrev pub invariant-loop-left : goal.invariant-loop-left
invariant-loop-left g l =
    let old = g.R.LendingReader.state l.fn.reader in
    let numbers = l.numbers.items in
    (l.left ≤ l.count) × (length numbers ≡ l.count - l.left)
    × ReadSoFar (Each (g.T.Layout.layout.format old.mode).encodes (map g.T.Layout.seen numbers)) old
    (g.R.LendingReader.state l.reader)

abbrev pub decreases-loop-left : goal.decreases-loop-left
decreases-loop-left g l = l.left
