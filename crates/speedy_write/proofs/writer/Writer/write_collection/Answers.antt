use Rattle.std.proofs.Common.{[], ◌∷◌, ◌++◌, refl}
use Rattle.std.proofs.iter.Next.{Yields-more}
use Rattle.speedy_write.proofs.CollectionLemmas.{Yields-put, all_items_written, next_item_refused}
use Rattle.speedy_write.proofs.ListLemmas.{no_items_written, more_written, next_written}
use Rattle.speedy_write.proofs.writer.Writer.write_collection.Goals as goal

pub loop-item-init : goal.loop-item-init
loop-item-init g c =
    let asked = c.requires c.into_iter-items.result c.into_iter-items.ensures.into_iter_gives in
    let none = no_items_written g.T.Layout.layout.format g.T.Layout.seen (g.met.Self.Writer.nothing _) in
    (asked.0, asked.1, [], refl, none)

pub loop-item-preserved : goal.loop-item-preserved
loop-item-preserved g c =
    let so_far = c.loop-item.invariant in
    let some = c.in-Some.ensures in
    let goes = some.1.goes_on in
    let all = so_far.2 ++ some.0 in
    let gave = Yields-put c.into_iter-items.result so_far.2 so_far.3 some.1 in (
      goes.0,
      goes.1,
      all ++ c.in-Some.item ∷ [],
      Yields-more g.I.IntoIter.Iterator.next_gives c.into_iter-items.result all gave.0 c.in-Some.item
          c.put_from.new.items gave.1 gave.2,
      next_written (g.met.Self.Writer.additive _ _ _) g.T.Layout.seen all c.in-Some.item
          (more_written g.T.Layout.layout.format (g.met.Self.Writer.additive _ _ _) g.T.Layout.seen so_far.2 some.0
          so_far.4 some.2) c.in_ok-write_item.ensures,
    )

pub returns-in_err-write_item : goal.returns-in_err-write_item
returns-in_err-write_item g c =
    let so_far = c.loop-item.invariant in
    let some = c.in-Some.ensures in
    let gave = Yields-put c.into_iter-items.result so_far.2 so_far.3 some.1 in
    next_item_refused c.into_iter-items.result (so_far.2 ++ some.0) gave.0 c.put_from.new.items
    c.into_iter-items.ensures.into_iter_gives gave.1 c.in-Some.item (g.met.Self.Writer.additive _ _ _)
    g.T.Layout.layout.laws c.from_residual.ensures.1 gave.2
    (more_written g.T.Layout.layout.format (g.met.Self.Writer.additive _ _ _) g.T.Layout.seen so_far.2 some.0
    so_far.4 some.2) c.in_err-write_item.ensures

pub returns : goal.returns
returns g c =
    let so_far = c.loop-item.invariant in
    let some = c.in_default.ensures in
    let gave = Yields-put c.into_iter-items.result so_far.2 so_far.3 some.1 in
    all_items_written c.into_iter-items.result (so_far.2 ++ some.0) gave.0 c.put_from.new.items
    c.into_iter-items.ensures.into_iter_gives gave.1 gave.2
    (more_written g.T.Layout.layout.format (g.met.Self.Writer.additive _ _ _) g.T.Layout.seen so_far.2 some.0
    so_far.4 some.2)
