use Rattle.std.proofs.Common.{◌≡◌, ◌*◌, length, map, take}
use Rattle.speedy_base.specs.Mode.{Mode}
use Rattle.speedy_layout.specs.Format.{Each}
use Rattle.speedy_write.proofs.fixed.put_values.Given as goal

-- the first values are put
abbrev pub invariant-loop-value : goal.invariant-loop-value
invariant-loop-value g l =
    (l.at ≡ l.value-index * g.P.FixedBytes.BYTES) × (length l.output ≡ length l.values * g.P.FixedBytes.BYTES)
    × ((mode : Mode) → l.order ≡ mode.order
    → Each (g.T.Layout.layout.format mode).writes (map g.T.Layout.seen (take l.value-index l.values))
    (take l.at l.output))
