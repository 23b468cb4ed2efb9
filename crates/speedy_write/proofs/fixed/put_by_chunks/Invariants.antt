use Rattle.std.proofs.Common.{◌≡◌, ◌+◌, ◌*◌, ◌++◌, List, length, map, take}
use Rattle.speedy_base.specs.Mode.{Mode}
use Rattle.speedy_layout.specs.Format.{Each}
use Rattle.speedy_write.proofs.fixed.put_by_chunks.Given as goal

-- all but the rest are put
abbrev pub invariant-loop-rest : goal.invariant-loop-rest
invariant-loop-rest g l =
    (l.at + length l.rest * g.P.FixedBytes.BYTES ≡ length l.output)
    × (done : List g.row.T.Denot) × (l.values ≡ done ++ l.rest)
    × ((mode : Mode) → l.order ≡ mode.order
    → Each (g.T.Layout.layout.format mode).writes (map g.T.Layout.seen done) (take l.at l.output))

abbrev pub decreases-loop-rest : goal.decreases-loop-rest
decreases-loop-rest g l = length l.rest
