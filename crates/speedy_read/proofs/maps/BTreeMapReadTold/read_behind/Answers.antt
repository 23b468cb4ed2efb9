use Rattle.std.proofs.Common.{false}
use Rattle.speedy_layout.specs.Tuples.{pair_codec}
use Rattle.speedy_layout.specs.SeenItems.{IsLess}
use Rattle.speedy_layout.specs.Maps.{by_key}
use Rattle.speedy_layout.specs.StdMaps.{tree_map_seen}
use Rattle.speedy_layout.specs.OneMoreItem.{Ascends-first}
use Rattle.speedy_read.proofs.CollectionLemmas.{collection_read, collection_refused}
use Rattle.speedy_read.proofs.maps.BTreeMapReadTold.read_behind.Goals as goal

pub returns-in_err-length : goal.returns-in_err-length
returns-in_err-length g c = collection_refused _ _ false c.from_residual.ensures.1 c.in_err-length.ensures

pub returns : goal.returns
returns g c =
    collection_read false g.N.Prefix.numbers.codec (pair_codec g.K.Layout.layout g.V.Layout.layout) _
    (tree_map_seen g.V.Layout.seen g.met.K.SameKey.same_key g.met.K.Ord.total g.met.K.Ord.matches_eq)
    (Ascends-first (by_key (IsLess g.K.Layout.seen g.K.Ord.cmp)))
    c.in_ok-length.ensures c.read_key_value_collection.ensures
