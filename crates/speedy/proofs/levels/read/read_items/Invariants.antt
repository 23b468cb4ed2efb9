use Rattle.std.proofs.Common.{◌≡◌, length, map}
use Rattle.speedy_layout.specs.Format.{Each}
use Rattle.speedy_read.specs.ReadingLemmas.{ReadSoFar}
use Rattle.speedy.specs.Layers.{at_level}
use Rattle.speedy.proofs.levels.read.read_items.Given as goal

-- as many items as were read
abbrev pub invariant-loop-i : goal.invariant-loop-i
invariant-loop-i g l =
    let old = g.R.LendingReader.state l.fn.reader in
    let seen = at_level g.T.Recursive.layer (g.B.Levels.levels l.below) in
    let layer = g.S.Shape.layer in
    let items = map (layer.view seen.view) l.items.items in
    (length items ≡ l.i) × ReadSoFar (Each ((layer.codec seen.codec).format old.mode).encodes items) old
    (g.R.LendingReader.state l.reader)
