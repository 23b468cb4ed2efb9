use Rattle.std.proofs.Common.{map, ◌≡◌, ◌+◌, ◌*◌, length}
use Rattle.speedy.specs.Format.{Each}
use Rattle.speedy.specs.ReadingLemmas.{ReadSoFar}
use Rattle.speedy_lines.specs.Trees.{view, tree_levels}
use Rattle.speedy_lines.proofs.tree.+read.Given as goal

abbrev pub decreases-read_children : goal.decreases-read_children
decreases-read_children g l = 2 * l.levels + 1

abbrev pub decreases-read_levels : goal.decreases-read_levels
decreases-read_levels g l = 2 * l.levels

abbrev pub invariant-read_children-loop-i : goal.invariant-read_children-loop-i
invariant-read_children-loop-i g l =
    let old = g.R.LendingReader.state l.fn.reader in
    let items = map view l.children.items in
    (length items ≡ l.i) × ReadSoFar (Each (tree_levels l.levels old.mode).encodes items) old
    (g.R.LendingReader.state l.reader)
