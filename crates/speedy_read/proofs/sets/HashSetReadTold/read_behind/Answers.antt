use Rattle.std.proofs.Common.{true}
use Rattle.speedy_layout.specs.StdSets.{hash_set_seen}
use Rattle.speedy_layout.specs.OneMoreItem.{AreDistinct-first}
use Rattle.speedy_read.proofs.CollectionLemmas.{collection_read, collection_refused}
use Rattle.speedy_read.proofs.sets.HashSetReadTold.read_behind.Goals as goal

pub returns-in_err-length : goal.returns-in_err-length
returns-in_err-length g c = collection_refused _ _ true c.from_residual.ensures.1 c.in_err-length.ensures

pub returns : goal.returns
returns g c =
    collection_read true g.N.Prefix.numbers.codec g.T.Layout.layout _
    (hash_set_seen g.met.T.SameKey.same_key) AreDistinct-first
    c.in_ok-length.ensures c.read_collection.ensures
