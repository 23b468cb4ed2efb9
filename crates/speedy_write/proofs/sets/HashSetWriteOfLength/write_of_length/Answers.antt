use Rattle.std.proofs.lemmas.List.{length-map}
use Rattle.speedy_layout.specs.CollectionLengths.{hash_set_single}
use Rattle.speedy_layout.specs.GatheredLengths.{IsGathering-beside, HasLengths-beside}
use Rattle.speedy_layout.specs.Sets.{hash_set_is}
use Rattle.speedy_layout.specs.StdSets.{hash_set_items}
use Rattle.speedy_write.proofs.CollectionLengthLemmas.{set_of_length_written}
use Rattle.speedy_write.proofs.sets.HashSetWriteOfLength.write_of_length.Goals as goal

pub returns : goal.returns
returns g c =
    let of = hash_set_items g.met.T.SameKey.same_key c.args.self.now c.iter.ensures.unique in
    set_of_length_written g.T.Layout.layout g.T.Layout.seen (IsGathering-beside hash_set_is)
    (HasLengths-beside hash_set_single)
    ((of.0, length-map _ _), of.1, of.1) c.iter.ensures.rest c.write_items_of.ensures
