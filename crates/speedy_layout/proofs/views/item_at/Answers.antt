use Rattle.speedy_layout.proofs.ViewLemmas.{item_found, item_missing}
use Rattle.speedy_layout.proofs.views.item_at.Goals as goal

pub returns-then-index-bytes : goal.returns-then-index-bytes
returns-then-index-bytes g c = item_found g.T.ViewItem.decoded g.T.FixedSize.SIZE c.args.bytes.now c.args.index _
    c.decode.result c.SIZE-size.ensures c.if-index-bytes.true c.decode.ensures

pub returns-else-index-bytes : goal.returns-else-index-bytes
returns-else-index-bytes g c = item_missing g.T.ViewItem.decoded g.T.FixedSize.SIZE c.args.bytes.now c.args.index _
    c.SIZE-size.ensures c.if-index-bytes.false
