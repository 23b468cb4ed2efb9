use Rattle.std.proofs.Common.{Ok, List}
use Rattle.std.specs.Iterator.{Yields, IsFinite, items_left}
use Rattle.speedy_write.specs.Writing.{WritesEach}
use Rattle.speedy_write.proofs.writer.Writer.write_collection.Given as goal

-- the items so far are written, and the iterator may go on
abbrev pub invariant-loop-item : goal.invariant-loop-item
invariant-loop-item g l =
    let W = g.Self.Writer in
    let I = g.I.IntoIter.Iterator in
    let before = l.initial.self in
    I.can_next l.items × IsFinite (I.remaining l.items)
    × (walked : List g.row.T.Denot) × Yields I.next_gives l.initial.items walked l.items
    × WritesEach g.C.Error.From.from_gives g.T.Layout.layout.format g.T.Layout.seen walked (Ok tt) (W.state before)
    (W.state l.self) (λ b. W.appends before b l.self)

abbrev pub decreases-loop-item : goal.decreases-loop-item
decreases-loop-item g l = items_left g.I.IntoIter.Iterator.remaining l.items
