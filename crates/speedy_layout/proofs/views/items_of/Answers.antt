use Rattle.speedy_base.specs.DigitsLemmas.{AreBytes-slice}
use Rattle.speedy_layout.proofs.WalkLemmas.{walked_in_order}
use Rattle.speedy_layout.specs.ViewIters.{left_items}
use Rattle.speedy_layout.specs.Views.{shown_items_encoded}
use Rattle.speedy_layout.proofs.views.items_of.Goals as goal

pub returns-clause-runs : goal.returns-clause-runs
returns-clause-runs g c = walked_in_order (left_items g.T.ViewItem.decoded g.T.FixedSize.SIZE)

pub returns-clause-encoded : goal.returns-clause-encoded
returns-clause-encoded g c = λ count long.
    let bytes = c.args.bytes.now in
    let item = g.T.ViewItem in
    shown_items_encoded item.decoded g.T.FixedSize.SIZE g.T.Layout.seen _ g.met.T.ViewItem.decodes count bytes
    g.met.T.ViewItem.some_bytes long (AreBytes-slice bytes c.type_inv.bytes)
