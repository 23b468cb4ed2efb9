use Rattle.std.proofs.Common.{false, sym, ◌∙◌}
use Rattle.std.proofs.lemmas.List.{length-map}
use Rattle.speedy_layout.specs.CollectionLengths.{tree_map_single, tree_maps_are_forms}
use Rattle.speedy_layout.specs.Maps.{by_key}
use Rattle.speedy_layout.specs.Members.{Ascends}
use Rattle.speedy_layout.specs.OneMoreItem.{Ascends-first}
use Rattle.speedy_layout.specs.SeenItems.{IsLess, less_is_asymmetric}
use Rattle.speedy_layout.specs.StdMaps.{tree_map_seen}
use Rattle.speedy_layout.specs.Tuples.{pair_codec}
use Rattle.speedy_read.proofs.CollectionLengthLemmas.{own_tells, of_length_refused, of_length_repeated}
use Rattle.speedy_read.proofs.CollectionLengthLemmas.{of_length_read}
use Rattle.speedy_read.proofs.maps.BTreeMapReadOfLength.read_of_length.Goals as goal

pub returns-in_err-map : goal.returns-in_err-map
returns-in_err-map g c =
    of_length_refused (Ascends (by_key (IsLess g.K.Layout.seen g.K.Ord.cmp))) false
    (own_tells (tree_map_single _) (tree_maps_are_forms (less_is_asymmetric g.K.Layout.seen g.K.Ord.cmp))
    (tree_map_seen g.V.Layout.seen g.met.K.SameKey.same_key g.met.K.Ord.total g.met.K.Ord.matches_eq))
    (pair_codec g.K.Layout.layout g.V.Layout.layout) c.args.length
    (Ascends-first (by_key (IsLess g.K.Layout.seen g.K.Ord.cmp))) c.from_residual.ensures.1 c.in_err-map.ensures

pub returns-then-len-length : goal.returns-then-len-length
returns-then-len-length g c =
    of_length_repeated (Ascends (by_key (IsLess g.K.Layout.seen g.K.Ord.cmp))) false
    (own_tells (tree_map_single _) (tree_maps_are_forms (less_is_asymmetric g.K.Layout.seen g.K.Ord.cmp))
    (tree_map_seen g.V.Layout.seen g.met.K.SameKey.same_key g.met.K.Ord.total g.met.K.Ord.matches_eq))
    (pair_codec g.K.Layout.layout g.V.Layout.layout) c.in_ok-map.ensures
    (λ e. c.if-len-length.true (c.len.ensures.len ∙ (sym (length-map _ _) ∙ e)))
    c.error_out_of_range_length.ensures

pub returns : goal.returns
returns g c =
    of_length_read (Ascends (by_key (IsLess g.K.Layout.seen g.K.Ord.cmp))) false
    (own_tells (tree_map_single _) (tree_maps_are_forms (less_is_asymmetric g.K.Layout.seen g.K.Ord.cmp))
    (tree_map_seen g.V.Layout.seen g.met.K.SameKey.same_key g.met.K.Ord.total g.met.K.Ord.matches_eq))
    (pair_codec g.K.Layout.layout g.V.Layout.layout) c.in_ok-map.ensures
    (length-map _ _ ∙ (sym c.len.ensures.len ∙ c.if-len-length.false))
