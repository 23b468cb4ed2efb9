use Rattle.std.proofs.Common.{◌≡◌, ◌-◌, ◌≤◌, length, map, take}
use Rattle.speedy_layout.specs.Format.{Each}
use Rattle.speedy_read.specs.ReadingLemmas.{ReadSoFar}
use Rattle.speedy_read.proofs.bulk.fill_chunks.Given as goal

-- the first places are filled
abbrev pub invariant-loop-at : goal.invariant-loop-at
invariant-loop-at g l =
    let old = g.R.LendingReader.state l.fn.reader in
    (l.at ≤ length l.places) × (length l.places ≡ length l.initial.places)
    × ReadSoFar (Each (g.T.Layout.layout.format old.mode).encodes (map g.T.Layout.seen (take l.at l.places))) old
    (g.R.LendingReader.state l.reader)

abbrev pub decreases-loop-at : goal.decreases-loop-at
decreases-loop-at g l = length l.places - l.at
