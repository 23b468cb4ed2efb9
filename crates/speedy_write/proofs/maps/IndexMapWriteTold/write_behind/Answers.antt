use Rattle.speedy_layout.specs.IndexMaps.{index_map_entries}
use Rattle.speedy_layout.specs.Maps.{index_map_is}
use Rattle.speedy_write.proofs.CollectionLemmas.{map_written}
use Rattle.speedy_write.proofs.maps.IndexMapWriteTold.write_behind.Goals as goal

pub returns : goal.returns
returns g c =
    map_written g.N.Prefix.numbers g.K.Layout.layout g.V.Layout.layout g.K.Layout.seen g.V.Layout.seen index_map_is
    (index_map_entries g.V.Layout.seen g.met.K.SameKey.same_key c.args.self.now c.iter.ensures.unique)
    c.len.ensures.len c.iter.ensures.rest c.write_counted_items.ensures
