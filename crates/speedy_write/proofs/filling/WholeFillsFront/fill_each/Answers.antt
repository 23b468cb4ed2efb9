use Rattle.std.proofs.Common.{◌∙◌, length, arith}
use borrow.Rule.Slice.PartMut.{same_len_mid, mid_len}
use Rattle.speedy_write.proofs.FrontLemmas.{one_more_filled}
use Rattle.speedy_write.proofs.filling.WholeFillsFront.fill_each.Goals as goal

pub loop-item-preserved : goal.loop-item-preserved
loop-item-preserved g c =
    let before = c.loop-item.invariant in
    let within = before.2.within in
    let sized = mid_len c.loop-item.end (length c.loop-item.buffer) c.loop-item.buffer (omega arith) in (
      c.fill_prefix.ensures.mode ∙ before.0,
      omega (arith, before.1),
      one_more_filled _ g.T.Layout.seen c.args.items.now c.loop-item.item-index _ _ c.loop-item-test.true c.item-item.is
          (same_len_mid c.loop-item.end _ c.loop-item.buffer c.fill_prefix.new.buffer c.fill_prefix.auto.buffer)
          (omega (arith, within, c.fill_prefix.auto.buffer ∙ sized)) before.2
          (rw before.0 at c.in-Some.ensures.fills),
    )
