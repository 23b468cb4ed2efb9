use Rattle.std.proofs.Common.{true, sym, ◌∙◌}
use Rattle.std.proofs.lemmas.List.{length-map}
use Rattle.speedy_layout.specs.CollectionLengths.{hash_map_single}
use Rattle.speedy_layout.specs.Maps.{HasDistinctKeys}
use Rattle.speedy_layout.specs.OneMoreItem.{HasDistinctKeys-first}
use Rattle.speedy_layout.specs.StdMaps.{hash_map_seen, hash_map_entries}
use Rattle.speedy_layout.specs.Tuples.{pair_codec}
use Rattle.speedy_read.proofs.CollectionLengthLemmas.{beside_tells, of_length_refused, of_length_repeated}
use Rattle.speedy_read.proofs.CollectionLengthLemmas.{of_length_read}
use Rattle.speedy_read.proofs.maps.HashMapReadOfLength.read_of_length.Goals as goal

pub returns-in_err-map : goal.returns-in_err-map
returns-in_err-map g c =
    of_length_refused HasDistinctKeys true
    (beside_tells hash_map_single (hash_map_seen g.V.Layout.seen g.met.K.SameKey.same_key)
    (λ items m h. let e = hash_map_entries g.V.Layout.seen g.met.K.SameKey.same_key m h.1 in
    (_, e.0, e.1, length-map _ _)))
    (pair_codec g.K.Layout.layout g.V.Layout.layout) c.args.length HasDistinctKeys-first
    c.from_residual.ensures.1 c.in_err-map.ensures

pub returns-then-len-length : goal.returns-then-len-length
returns-then-len-length g c =
    of_length_repeated HasDistinctKeys true
    (beside_tells hash_map_single (hash_map_seen g.V.Layout.seen g.met.K.SameKey.same_key)
    (λ items m h. let e = hash_map_entries g.V.Layout.seen g.met.K.SameKey.same_key m h.1 in
    (_, e.0, e.1, length-map _ _)))
    (pair_codec g.K.Layout.layout g.V.Layout.layout) c.in_ok-map.ensures
    (λ e. c.if-len-length.true (c.len.ensures.len ∙ e))
    c.error_out_of_range_length.ensures

pub returns : goal.returns
returns g c =
    of_length_read HasDistinctKeys true
    (beside_tells hash_map_single (hash_map_seen g.V.Layout.seen g.met.K.SameKey.same_key)
    (λ items m h. let e = hash_map_entries g.V.Layout.seen g.met.K.SameKey.same_key m h.1 in
    (_, e.0, e.1, length-map _ _)))
    (pair_codec g.K.Layout.layout g.V.Layout.layout) c.in_ok-map.ensures
    (sym c.len.ensures.len ∙ c.if-len-length.false)
