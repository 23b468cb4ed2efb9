use Rattle.std.proofs.Common.{◌/◌, length}
use Rattle.speedy_base.specs.DigitsLemmas.{AreBytes-slice}
use Rattle.speedy_layout.specs.Views.{shown_items_encoded}
use Rattle.speedy_layout.proofs.ViewLemmas.{whole_items}
use Rattle.speedy_layout.proofs.views.SliceView.over.Goals as goal

pub returns-clause-encoded : goal.returns-clause-encoded
returns-clause-encoded g c =
    let bytes = c.args.bytes.now in
    let size = g.T.FixedSize.SIZE in
    shown_items_encoded g.T.ViewItem.decoded size g.T.Layout.seen _ g.met.T.ViewItem.decodes (length bytes / size) bytes
    g.met.T.ViewItem.some_bytes (whole_items size (length bytes) c.requires) (AreBytes-slice bytes c.type_inv.bytes)
