use Rattle.speedy_layout.specs.StdSets.{tree_set_items}
use Rattle.speedy_layout.specs.Sets.{tree_set_is}
use Rattle.speedy_layout.specs.SeenItems.{less_is_asymmetric}
use Rattle.speedy_write.proofs.CollectionLemmas.{set_written}
use Rattle.speedy_write.proofs.sets.BTreeSetWriteTold.write_behind.Goals as goal

pub returns : goal.returns
returns g c =
    set_written g.N.Prefix.numbers g.T.Layout.layout g.T.Layout.seen
    (tree_set_is (less_is_asymmetric g.T.Layout.seen g.T.Ord.cmp))
    (tree_set_items g.met.T.SameKey.same_key g.met.T.Ord.total g.met.T.Ord.matches_eq
    c.args.self.now c.iter.ensures.ordered)
    c.len.ensures.len c.iter.ensures.rest c.write_counted_items.ensures
