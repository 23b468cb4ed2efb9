use Rattle.std.proofs.Common.{take, Ok}
use Rattle.speedy_write.specs.Writing.{WritesEach}
use Rattle.speedy.specs.Layers.{at_level}
use Rattle.speedy.proofs.levels.write.write_items.Given as goal

-- the first items are written
abbrev pub invariant-loop-item : goal.invariant-loop-item
invariant-loop-item g l =
    let W = g.W.Writer in
    let before = l.initial.writer in
    let seen = at_level g.T.Recursive.layer (g.B.Levels.levels l.below) in
    let layer = g.S.Shape.layer in
    WritesEach g.C.Error.From.from_gives (layer.codec seen.codec).format (layer.view seen.view)
    (take l.item-index l.items) (Ok tt) (W.state before) (W.state l.writer) (λ b. W.appends before b l.writer)
