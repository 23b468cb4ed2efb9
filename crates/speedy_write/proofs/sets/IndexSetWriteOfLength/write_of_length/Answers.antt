use Rattle.speedy_layout.specs.CollectionLengths.{index_set_single, index_sets_are_forms}
use Rattle.speedy_layout.specs.GatheredLengths.{own_lengths}
use Rattle.speedy_layout.specs.IndexMaps.{index_set_items}
use Rattle.speedy_layout.specs.Sets.{index_set_is}
use Rattle.speedy_write.proofs.CollectionLengthLemmas.{set_of_length_written}
use Rattle.speedy_write.proofs.sets.IndexSetWriteOfLength.write_of_length.Goals as goal

pub returns : goal.returns
returns g c =
    let of = index_set_items g.met.T.SameKey.same_key c.args.self.now c.iter.ensures.unique in
    set_of_length_written g.T.Layout.layout g.T.Layout.seen index_set_is
    (own_lengths index_set_single index_sets_are_forms)
    (index_sets_are_forms _ _ of.0) c.iter.ensures.rest c.write_items_of.ensures
