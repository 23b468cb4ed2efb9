use Rattle.speedy_layout.specs.CollectionLengths.{tree_map_single, tree_maps_are_forms}
use Rattle.speedy_layout.specs.GatheredLengths.{own_lengths}
use Rattle.speedy_layout.specs.Maps.{tree_map_is}
use Rattle.speedy_layout.specs.SeenItems.{less_is_asymmetric}
use Rattle.speedy_layout.specs.StdMaps.{tree_map_entries}
use Rattle.speedy_write.proofs.CollectionLengthLemmas.{map_of_length_written}
use Rattle.speedy_write.proofs.maps.BTreeMapWriteOfLength.write_of_length.Goals as goal

pub returns : goal.returns
returns g c =
    let of = tree_map_entries g.V.Layout.seen g.met.K.SameKey.same_key g.met.K.Ord.total g.met.K.Ord.matches_eq
    c.args.self.now c.iter.ensures.ordered in
    map_of_length_written g.K.Layout.layout g.V.Layout.layout g.K.Layout.seen g.V.Layout.seen
    (tree_map_is (less_is_asymmetric g.K.Layout.seen g.K.Ord.cmp))
    (own_lengths (tree_map_single _) (tree_maps_are_forms (less_is_asymmetric g.K.Layout.seen g.K.Ord.cmp)))
    (tree_maps_are_forms (less_is_asymmetric g.K.Layout.seen g.K.Ord.cmp) _ _ of.0) c.iter.ensures.rest
    c.write_items_of.ensures
