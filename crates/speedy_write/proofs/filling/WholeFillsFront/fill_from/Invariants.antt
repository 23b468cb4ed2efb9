use Rattle.std.proofs.Common.{◌≡◌, map}
use Rattle.std.proofs.iter.Next as it
use Rattle.std.specs.Iterator.{EndsFrom, items_left}
use Rattle.speedy_layout.specs.Format.{Each}
use Rattle.speedy_write.specs.Collectors.{IsAtFront}
use Rattle.speedy_write.proofs.filling.WholeFillsFront.fill_from.Given as goal

-- the items so far stand at the front, and the encoding is as it was
abbrev pub invariant-loop-item : goal.invariant-loop-item
invariant-loop-item g l =
    let mode = g.C.Context.mode in
    let format = g.T.Layout.layout.format (mode l.fn.context) in
    let I = g.I.Iterator in
    (mode l.context ≡ mode l.fn.context)
    × it.Ran I.can_next (EndsFrom I.remaining) (items_left I.remaining) I.next_gives
    (λ put. IsAtFront (Each format.writes) (map g.T.Layout.seen put) l.buffer l.end) l.fn.items l.items

abbrev pub decreases-loop-item : goal.decreases-loop-item
decreases-loop-item g l = items_left g.I.Iterator.remaining l.items
