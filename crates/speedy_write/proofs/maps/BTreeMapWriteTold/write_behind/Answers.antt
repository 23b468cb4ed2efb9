use Rattle.speedy_layout.specs.StdMaps.{tree_map_entries}
use Rattle.speedy_layout.specs.Maps.{tree_map_is}
use Rattle.speedy_layout.specs.SeenItems.{less_is_asymmetric}
use Rattle.speedy_write.proofs.CollectionLemmas.{map_written}
use Rattle.speedy_write.proofs.maps.BTreeMapWriteTold.write_behind.Goals as goal

pub returns : goal.returns
returns g c =
    map_written g.N.Prefix.numbers g.K.Layout.layout g.V.Layout.layout g.K.Layout.seen g.V.Layout.seen
    (tree_map_is (less_is_asymmetric g.K.Layout.seen g.K.Ord.cmp))
    (tree_map_entries g.V.Layout.seen g.met.K.SameKey.same_key g.met.K.Ord.total g.met.K.Ord.matches_eq
    c.args.self.now c.iter.ensures.ordered)
    c.len.ensures.len c.iter.ensures.rest c.write_counted_items.ensures
