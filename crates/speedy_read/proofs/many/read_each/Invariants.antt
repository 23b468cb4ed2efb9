use Rattle.std.proofs.Common.{◌≡◌, ◌+◌, ◌-◌, ◌≤◌, length, map}
use Rattle.std.specs.Prelude.{vec_capacity}
use Rattle.speedy_layout.specs.Format.{Each}
use Rattle.speedy_read.specs.ReadingLemmas.{ReadSoFar}
use Rattle.speedy_read.proofs.many.read_each.Given as goal

abbrev pub invariant-loop-left : goal.invariant-loop-left
invariant-loop-left g l =
    let old = g.R.LendingReader.state l.fn.reader in
    let items = map g.T.Layout.seen l.items.items in
    (l.left ≤ l.length) × (length items ≡ l.length - l.left)
    × ReadSoFar (Each (g.T.Layout.layout.format old.mode).encodes items) old (g.R.LendingReader.state l.reader)

abbrev pub decreases-loop-left : goal.decreases-loop-left
decreases-loop-left g l = l.left

-- the places that were asked for are still there
abbrev pub invariant-loop-i : goal.invariant-loop-i
invariant-loop-i g l =
    let old = g.R.LendingReader.state l.fn.reader in
    let items = map g.T.Layout.seen l.items.items in
    (length items ≡ l.length - l.left + l._i) × (l.length - l.left + l.some ≤ vec_capacity l.items)
    × ReadSoFar (Each (g.T.Layout.layout.format old.mode).encodes items) old (g.R.LendingReader.state l.reader)
