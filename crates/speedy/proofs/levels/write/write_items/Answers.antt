use Rattle.std.proofs.Common.{arith}
use Rattle.speedy_write.proofs.ListLemmas.{no_items_written, one_more_written, items_refused}
use Rattle.speedy.specs.Layers.{at_level}
use Rattle.speedy.proofs.levels.write.write_items.Goals as goal

pub loop-item-init : goal.loop-item-init
loop-item-init g c =
    let seen = at_level g.T.Recursive.layer (g.B.Levels.levels c.args.below.now) in
    let layer = g.S.Shape.layer in
    no_items_written (layer.codec seen.codec).format (layer.view seen.view) (g.met.W.Writer.nothing _)

pub loop-item-preserved : goal.loop-item-preserved
loop-item-preserved g c =
    let seen = at_level g.T.Recursive.layer (g.B.Levels.levels c.args.below.now) in
    one_more_written (g.met.W.Writer.additive _ _ _) (g.S.Shape.layer.view seen.view) c.args.items.now
    c.loop-item.item-index (omega arith) c.item-item.is c.loop-item.invariant c.in_ok-write_below.ensures

pub returns-in_err-write_below : goal.returns-in_err-write_below
returns-in_err-write_below g c =
    let seen = at_level g.T.Recursive.layer (g.B.Levels.levels c.args.below.now) in
    let layer = g.S.Shape.layer in
    items_refused (g.met.W.Writer.additive _ _ _) (layer.view seen.view) c.args.items.now c.loop-item.item-index
    (omega arith) c.item-item.is (layer.codec seen.codec).laws c.from_residual.ensures.1 c.loop-item.invariant
    c.in_err-write_below.ensures
