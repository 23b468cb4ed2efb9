use Rattle.std.proofs.Common.{◌≡◌, map, take}
use Rattle.speedy_layout.specs.Format.{Each}
use Rattle.speedy_write.specs.Collectors.{IsAtFront}
use Rattle.speedy_write.proofs.filling.WholeFillsFront.fill_each.Given as goal

-- the first items stand at the front, and the encoding is as it was
abbrev pub invariant-loop-item : goal.invariant-loop-item
invariant-loop-item g l =
    let mode = g.C.Context.mode in
    let format = g.T.Layout.layout.format (mode l.fn.context) in
    (mode l.context ≡ mode l.fn.context) × (l.count ≡ l.item-index)
    × IsAtFront (Each format.writes) (map g.T.Layout.seen (take l.item-index l.items)) l.buffer l.end
