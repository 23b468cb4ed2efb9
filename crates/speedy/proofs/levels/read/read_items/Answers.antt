use Rattle.std.proofs.Common.{◌<◌, length, map, ap, refl, ◌∙◌, arith}
use Rattle.std.proofs.lemmas.List.{length_push}
use Rattle.speedy_read.specs.ReadingLemmas.{Kept-after, none_so_far}
use Rattle.speedy_read.proofs.ListLemmas.{item_more, got_items, refused_item, refused_room, seen_added}
use Rattle.speedy.specs.Layers.{at_level}
use Rattle.speedy.proofs.levels.read.read_items.Goals as goal

pub loop-i-init : goal.loop-i-init
loop-i-init g c = rw c.new-items.ensures.items (refl, none_so_far refl)

pub loop-i-preserved : goal.loop-i-preserved
loop-i-preserved g c =
    let so_far = c.loop-i.invariant.1 in
    let seen = at_level g.T.Recursive.layer (g.B.Levels.levels c.args.below.now) in
    let view = g.S.Shape.layer.view seen.view in
    let items = seen_added view _ _ c.in_ok-item.item c.in-Ok.ensures.pushed in (
      ap length items
          ∙ (length_push (map view c.loop-i.items.items) (view c.in_ok-item.item)
          ∙ omega (arith, c.loop-i.invariant.0)),
      item_more _ _ so_far (rw so_far.kept.mode at c.in_ok-item.ensures) items,
    )

pub returns-in_err-item : goal.returns-in_err-item
returns-in_err-item g c =
    let so_far = c.loop-i.invariant.1 in
    let seen = at_level g.T.Recursive.layer (g.B.Levels.levels c.args.below.now) in
    let layer = g.S.Shape.layer in
    let fewer : length (map (layer.view seen.view) c.loop-i.items.items) < c.args.length =
    let count = c.loop-i.invariant.0 in
    omega arith in
    refused_item ((layer.codec seen.codec).laws _) _ _ fewer so_far
    c.from_residual.ensures.1
    (rw so_far.kept.mode at c.in_err-item.ensures)

pub returns-in-Err : goal.returns-in-Err
returns-in-Err g c =
    let so_far = c.loop-i.invariant.1 in
    refused_room _ _ _ (Kept-after so_far.kept c.in_ok-item.ensures.kept)
    (c.in_ok-item.ensures.answer.no_fault ∙ so_far.got.no_fault) refl c.error_out_of_memory.ensures

pub returns : goal.returns
returns g c = got_items _ _ c.loop-i.invariant.1 (c.loop-i.invariant.0 ∙ omega arith)
