use Rattle.speedy_layout.specs.CollectionLengths.{tree_set_single, tree_sets_are_forms}
use Rattle.speedy_layout.specs.GatheredLengths.{own_lengths}
use Rattle.speedy_layout.specs.Sets.{tree_set_is}
use Rattle.speedy_layout.specs.SeenItems.{less_is_asymmetric}
use Rattle.speedy_layout.specs.StdSets.{tree_set_items}
use Rattle.speedy_write.proofs.CollectionLengthLemmas.{set_of_length_written}
use Rattle.speedy_write.proofs.sets.BTreeSetWriteOfLength.write_of_length.Goals as goal

pub returns : goal.returns
returns g c =
    let of = tree_set_items g.met.T.SameKey.same_key g.met.T.Ord.total g.met.T.Ord.matches_eq c.args.self.now
    c.iter.ensures.ordered in
    set_of_length_written g.T.Layout.layout g.T.Layout.seen
    (tree_set_is (less_is_asymmetric g.T.Layout.seen g.T.Ord.cmp))
    (own_lengths (tree_set_single _) (tree_sets_are_forms (less_is_asymmetric g.T.Layout.seen g.T.Ord.cmp)))
    (tree_sets_are_forms (less_is_asymmetric g.T.Layout.seen g.T.Ord.cmp) _ _ of.0) c.iter.ensures.rest
    c.write_items_of.ensures
