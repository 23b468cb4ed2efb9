use Rattle.std.proofs.Common.{◌*◌, ◌≤◌, map, take}
use Rattle.speedy_base.specs.Mode.{Mode}
use Rattle.speedy_write.specs.Counting.{CountsEach}
use Rattle.speedy_write.proofs.each.size_of_block.Given as goal

-- the sum is the length of the first values' bytes
abbrev pub invariant-loop-value : goal.invariant-loop-value
invariant-loop-value g l =
    (l.sum ≤ l.value-index * 31)
    × ((mode : Mode) → CountsEach (g.T.Layout.layout.format mode).writes
    (map g.T.Layout.seen (take l.value-index l.values)) l.sum)
