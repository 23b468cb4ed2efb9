use Rattle.std.proofs.lemmas.List.{length-map}
use Rattle.speedy_layout.specs.CollectionLengths.{hash_map_single}
use Rattle.speedy_layout.specs.GatheredLengths.{IsGathering-beside, HasLengths-beside}
use Rattle.speedy_layout.specs.Maps.{hash_map_is}
use Rattle.speedy_layout.specs.StdMaps.{hash_map_entries}
use Rattle.speedy_write.proofs.CollectionLengthLemmas.{map_of_length_written}
use Rattle.speedy_write.proofs.maps.HashMapWriteOfLength.write_of_length.Goals as goal

pub returns : goal.returns
returns g c =
    let of = hash_map_entries g.V.Layout.seen g.met.K.SameKey.same_key c.args.self.now c.iter.ensures.unique in
    map_of_length_written g.K.Layout.layout g.V.Layout.layout g.K.Layout.seen g.V.Layout.seen
    (IsGathering-beside hash_map_is)
    (HasLengths-beside hash_map_single)
    ((of.0, length-map _ _), of.1, of.1) c.iter.ensures.rest c.write_items_of.ensures
