use Rattle.std.proofs.Common.{sym, ◌∙◌, map}
use Rattle.std.proofs.lemmas.List.{length-map}
use Rattle.speedy_layout.specs.Lists.{list}
use Rattle.speedy_layout.specs.ViewIters.{left_items}
use Rattle.speedy_layout.specs.Views.{shown_items}
use Rattle.speedy_write.proofs.CollectionLemmas.{left_in_order}
use Rattle.speedy_write.proofs.OwnedLemmas.{borrowed_written}
use Rattle.speedy_write.proofs.views.SliceViewWritable.write_to.Goals as goal

pub returns : goal.returns
unfolding list
returns g c =
    let item = g.T.ViewItem in
    let seen = g.T.Layout.seen in
    let items = shown_items item.decoded g.T.FixedSize.SIZE c.args.self.now.bytes.now in
    let after = c.write_counted_items.new.writer in
    borrowed_written {new = g.W.Writer.state after} {appended = λ b. g.W.Writer.appends c.args.writer.now b after}
    (c.write_counted_items.ensures (map seen items) (c.len-count.ensures ∙ sym (length-map items seen))
    (left_in_order (left_items item.decoded g.T.FixedSize.SIZE) seen c.iter.ensures.shown))
