use Rattle.std.proofs.Common.{◌≡◌, ◌*◌, ◌≤◌, ◌++◌, List, length, map}
use Rattle.speedy_base.specs.Mode.{Mode}
use Rattle.speedy_write.specs.Counting.{CountsEach}
use Rattle.speedy_write.proofs.each.size_of_short.Given as goal

-- all but the rest are counted
abbrev pub invariant-loop-rest : goal.invariant-loop-rest
invariant-loop-rest g l =
    (done : List g.row.T.Denot) × (l.values ≡ done ++ l.rest) × (l.sum ≤ length done * 31)
    × ((mode : Mode) → CountsEach (g.T.Layout.layout.format mode).writes (map g.T.Layout.seen done) l.sum)

abbrev pub decreases-loop-rest : goal.decreases-loop-rest
decreases-loop-rest g l = length l.rest
