use Rattle.speedy_layout.specs.CollectionLengths.{index_map_single, index_maps_are_forms}
use Rattle.speedy_layout.specs.GatheredLengths.{own_lengths}
use Rattle.speedy_layout.specs.IndexMaps.{index_map_entries}
use Rattle.speedy_layout.specs.Maps.{index_map_is}
use Rattle.speedy_write.proofs.CollectionLengthLemmas.{map_of_length_written}
use Rattle.speedy_write.proofs.maps.IndexMapWriteOfLength.write_of_length.Goals as goal

pub returns : goal.returns
returns g c =
    let of = index_map_entries g.V.Layout.seen g.met.K.SameKey.same_key c.args.self.now c.iter.ensures.unique in
    map_of_length_written g.K.Layout.layout g.V.Layout.layout g.K.Layout.seen g.V.Layout.seen index_map_is
    (own_lengths index_map_single index_maps_are_forms)
    (index_maps_are_forms _ _ of.0) c.iter.ensures.rest c.write_items_of.ensures
