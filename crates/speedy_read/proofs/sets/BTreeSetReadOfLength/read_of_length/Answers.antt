use Rattle.std.proofs.Common.{false, sym, ◌∙◌}
use Rattle.std.proofs.lemmas.List.{length-map}
use Rattle.speedy_layout.specs.CollectionLengths.{tree_set_single, tree_sets_are_forms}
use Rattle.speedy_layout.specs.Members.{Ascends}
use Rattle.speedy_layout.specs.OneMoreItem.{Ascends-first}
use Rattle.speedy_layout.specs.SeenItems.{IsLess, less_is_asymmetric}
use Rattle.speedy_layout.specs.StdSets.{tree_set_seen}
use Rattle.speedy_read.proofs.CollectionLengthLemmas.{own_tells, of_length_refused, of_length_repeated}
use Rattle.speedy_read.proofs.CollectionLengthLemmas.{of_length_read}
use Rattle.speedy_read.proofs.sets.BTreeSetReadOfLength.read_of_length.Goals as goal

pub returns-in_err-set : goal.returns-in_err-set
returns-in_err-set g c =
    of_length_refused (Ascends (IsLess g.T.Layout.seen g.T.Ord.cmp)) false
    (own_tells (tree_set_single _) (tree_sets_are_forms (less_is_asymmetric g.T.Layout.seen g.T.Ord.cmp))
    (tree_set_seen g.met.T.SameKey.same_key g.met.T.Ord.total g.met.T.Ord.matches_eq))
    g.T.Layout.layout c.args.length (Ascends-first (IsLess g.T.Layout.seen g.T.Ord.cmp))
    c.from_residual.ensures.1 c.in_err-set.ensures

pub returns-then-len-length : goal.returns-then-len-length
returns-then-len-length g c =
    of_length_repeated (Ascends (IsLess g.T.Layout.seen g.T.Ord.cmp)) false
    (own_tells (tree_set_single _) (tree_sets_are_forms (less_is_asymmetric g.T.Layout.seen g.T.Ord.cmp))
    (tree_set_seen g.met.T.SameKey.same_key g.met.T.Ord.total g.met.T.Ord.matches_eq))
    g.T.Layout.layout c.in_ok-set.ensures
    (λ e. c.if-len-length.true (c.len.ensures.len ∙ (sym (length-map _ _) ∙ e)))
    c.error_out_of_range_length.ensures

pub returns : goal.returns
returns g c =
    of_length_read (Ascends (IsLess g.T.Layout.seen g.T.Ord.cmp)) false
    (own_tells (tree_set_single _) (tree_sets_are_forms (less_is_asymmetric g.T.Layout.seen g.T.Ord.cmp))
    (tree_set_seen g.met.T.SameKey.same_key g.met.T.Ord.total g.met.T.Ord.matches_eq))
    g.T.Layout.layout c.in_ok-set.ensures
    (length-map _ _ ∙ (sym c.len.ensures.len ∙ c.if-len-length.false))
