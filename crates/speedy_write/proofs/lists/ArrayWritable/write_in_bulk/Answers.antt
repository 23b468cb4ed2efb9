use Rattle.speedy_write.proofs.ArrayLemmas.{items_written}
use Rattle.speedy_write.proofs.lists.ArrayWritable.write_in_bulk.Goals as goal

pub returns-clause-writes : goal.returns-clause-writes
returns-clause-writes g c =
    items_written _ g.T.Layout.layout.format g.T.Layout.seen c.args.items.now _ _ _ _ _
    c.are_whole.ensures c.as_flattened.ensures.value c.write_many.ensures
