use Rattle.std.proofs.Common.{false, sym, ◌∙◌}
use Rattle.std.proofs.lemmas.List.{length-map}
use Rattle.speedy_layout.specs.CollectionLengths.{index_map_single, index_maps_are_forms}
use Rattle.speedy_layout.specs.IndexMaps.{index_map_seen}
use Rattle.speedy_layout.specs.Maps.{HasDistinctKeys}
use Rattle.speedy_layout.specs.OneMoreItem.{HasDistinctKeys-first}
use Rattle.speedy_layout.specs.Tuples.{pair_codec}
use Rattle.speedy_read.proofs.CollectionLengthLemmas.{own_tells, of_length_refused, of_length_repeated}
use Rattle.speedy_read.proofs.CollectionLengthLemmas.{of_length_read}
use Rattle.speedy_read.proofs.maps.IndexMapReadOfLength.read_of_length.Goals as goal

pub returns-in_err-map : goal.returns-in_err-map
returns-in_err-map g c =
    of_length_refused HasDistinctKeys false
    (own_tells index_map_single index_maps_are_forms (index_map_seen g.V.Layout.seen g.met.K.SameKey.same_key))
    (pair_codec g.K.Layout.layout g.V.Layout.layout) c.args.length HasDistinctKeys-first
    c.from_residual.ensures.1 c.in_err-map.ensures

pub returns-then-len-length : goal.returns-then-len-length
returns-then-len-length g c =
    of_length_repeated HasDistinctKeys false
    (own_tells index_map_single index_maps_are_forms (index_map_seen g.V.Layout.seen g.met.K.SameKey.same_key))
    (pair_codec g.K.Layout.layout g.V.Layout.layout) c.in_ok-map.ensures
    (λ e. c.if-len-length.true (c.len.ensures.len ∙ (sym (length-map _ _) ∙ e)))
    c.error_out_of_range_length.ensures

pub returns : goal.returns
returns g c =
    of_length_read HasDistinctKeys false
    (own_tells index_map_single index_maps_are_forms (index_map_seen g.V.Layout.seen g.met.K.SameKey.same_key))
    (pair_codec g.K.Layout.layout g.V.Layout.layout) c.in_ok-map.ensures
    (length-map _ _ ∙ (sym c.len.ensures.len ∙ c.if-len-length.false))
