use Rattle.speedy_layout.specs.IndexMaps.{index_set_items}
use Rattle.speedy_layout.specs.Sets.{index_set_is}
use Rattle.speedy_write.proofs.CollectionLemmas.{set_written}
use Rattle.speedy_write.proofs.sets.IndexSetWriteTold.write_behind.Goals as goal

pub returns : goal.returns
returns g c =
    set_written g.N.Prefix.numbers g.T.Layout.layout g.T.Layout.seen index_set_is
    (index_set_items g.met.T.SameKey.same_key c.args.self.now c.iter.ensures.unique)
    c.len.ensures.len c.iter.ensures.rest c.write_counted_items.ensures
