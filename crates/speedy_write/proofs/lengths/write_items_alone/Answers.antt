use Rattle.std.proofs.lemmas.List.{length-map}
use Rattle.speedy_write.specs.BehindCounts.{items_written}
use Rattle.speedy_write.proofs.lengths.write_items_alone.Goals as goal

pub returns : goal.returns
returns g c = rw (length-map c.args.items.now g.T.Layout.seen) (items_written _ _ _ c.write_many.ensures)
