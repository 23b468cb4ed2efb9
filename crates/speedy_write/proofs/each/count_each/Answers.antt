use Rattle.std.proofs.Common.{◌∙◌, arith}
use Rattle.speedy_write.proofs.CountLemmas.{one_more_counted}
use Rattle.speedy_write.proofs.each.count_each.Goals as goal

pub loop-item-preserved : goal.loop-item-preserved
loop-item-preserved g c =
    let so_far = c.loop-item.invariant in (
      c.bytes_needed.ensures.mode ∙ so_far.0,
      omega (arith, so_far.1, c.if-size-le-MOST_BYTES.true),
      one_more_counted _ g.T.Layout.seen c.args.items.now c.loop-item.item-index (omega arith) c.item-item.is so_far.2
          (rw so_far.0 at c.in-Ok.ensures.needs.written),
    )
