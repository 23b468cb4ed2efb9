use Rattle.std.proofs.Common.{◌≡◌, ◌*◌, ◌≤◌, map, take}
use Rattle.speedy_write.specs.Counting.{CountsEach}
use Rattle.speedy_write.proofs.each.count_each.Given as goal

-- the sum is the length of the first items' bytes, and the mode is as it was
abbrev pub invariant-loop-item : goal.invariant-loop-item
invariant-loop-item g l =
    let mode = g.C.Context.mode in
    let format = g.T.Layout.layout.format (mode l.fn.context) in
    (mode l.context ≡ mode l.fn.context) × (l.sum ≤ l.item-index * 2147483647)
    × CountsEach format.writes (map g.T.Layout.seen (take l.item-index l.items)) l.sum
