use Rattle.std.proofs.Common.{ℕ, List, sym, ◌∙◌}
use Rattle.std.proofs.lemmas.List.{length-map}
use Rattle.speedy_layout.specs.Lists.{vector}
use Rattle.speedy_layout.specs.ViewIters.{left_items}
use Rattle.speedy_layout.specs.Views.{shown_items, length-shown_many}
use Rattle.speedy_write.proofs.CollectionLemmas.{left_in_order, shown_items_written}
use Rattle.speedy_write.proofs.OwnedLemmas.{owned_written, borrowed_written}
use Rattle.speedy_write.proofs.views.ArrayViewWritable.write_to.Goals as goal

pub returns : goal.returns
unfolding vector
returns g c =
    let item = g.T.ViewItem in
    let seen = g.T.Layout.seen in
    let view = c.args.self.now in
    let items = shown_items item.decoded g.T.FixedSize.SIZE view.bytes.now in
    let many =
    length-shown_many item.decoded g.T.FixedSize.SIZE g.row.N view.bytes.now g.met.T.ViewItem.some_bytes view.whole in
    let after = c.write_collection.new.self in
    let state = g.W.Writer.state after in
    let appended = λ (b : List ℕ). g.W.Writer.appends c.args.writer.now b after in
    borrowed_written {new = state} {appended = appended}
    (owned_written {new = state} {appended = appended}
    (shown_items_written {new = state} {appended = appended} (sym many ∙ sym (length-map items seen))
    (left_in_order (left_items item.decoded g.T.FixedSize.SIZE) seen c.iter.ensures.shown) c.write_collection.ensures))
