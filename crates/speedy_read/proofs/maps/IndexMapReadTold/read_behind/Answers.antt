use Rattle.std.proofs.Common.{false}
use Rattle.speedy_layout.specs.Tuples.{pair_codec}
use Rattle.speedy_layout.specs.IndexMaps.{index_map_seen}
use Rattle.speedy_layout.specs.OneMoreItem.{HasDistinctKeys-first}
use Rattle.speedy_read.proofs.CollectionLemmas.{collection_read, collection_refused}
use Rattle.speedy_read.proofs.maps.IndexMapReadTold.read_behind.Goals as goal

pub returns-in_err-length : goal.returns-in_err-length
returns-in_err-length g c = collection_refused _ _ false c.from_residual.ensures.1 c.in_err-length.ensures

pub returns : goal.returns
returns g c =
    collection_read false g.N.Prefix.numbers.codec (pair_codec g.K.Layout.layout g.V.Layout.layout) _
    (index_map_seen g.V.Layout.seen g.met.K.SameKey.same_key) HasDistinctKeys-first
    c.in_ok-length.ensures c.read_key_value_collection.ensures
