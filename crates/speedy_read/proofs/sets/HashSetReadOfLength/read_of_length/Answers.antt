use Rattle.std.proofs.Common.{true, sym, ◌∙◌}
use Rattle.std.proofs.lemmas.List.{length-map}
use Rattle.speedy_layout.specs.CollectionLengths.{hash_set_single}
use Rattle.speedy_layout.specs.Members.{AreDistinct}
use Rattle.speedy_layout.specs.OneMoreItem.{AreDistinct-first}
use Rattle.speedy_layout.specs.StdSets.{hash_set_seen, hash_set_items}
use Rattle.speedy_read.proofs.CollectionLengthLemmas.{beside_tells, of_length_refused, of_length_repeated}
use Rattle.speedy_read.proofs.CollectionLengthLemmas.{of_length_read}
use Rattle.speedy_read.proofs.sets.HashSetReadOfLength.read_of_length.Goals as goal

pub returns-in_err-set : goal.returns-in_err-set
returns-in_err-set g c =
    of_length_refused AreDistinct true
    (beside_tells hash_set_single (hash_set_seen g.met.T.SameKey.same_key)
    (λ items s h. let e = hash_set_items g.met.T.SameKey.same_key s h.1 in (_, e.0, e.1, length-map _ _)))
    g.T.Layout.layout c.args.length AreDistinct-first c.from_residual.ensures.1 c.in_err-set.ensures

pub returns-then-len-length : goal.returns-then-len-length
returns-then-len-length g c =
    of_length_repeated AreDistinct true
    (beside_tells hash_set_single (hash_set_seen g.met.T.SameKey.same_key)
    (λ items s h. let e = hash_set_items g.met.T.SameKey.same_key s h.1 in (_, e.0, e.1, length-map _ _)))
    g.T.Layout.layout c.in_ok-set.ensures
    (λ e. c.if-len-length.true (c.len.ensures.len ∙ e))
    c.error_out_of_range_length.ensures

pub returns : goal.returns
returns g c =
    of_length_read AreDistinct true
    (beside_tells hash_set_single (hash_set_seen g.met.T.SameKey.same_key)
    (λ items s h. let e = hash_set_items g.met.T.SameKey.same_key s h.1 in (_, e.0, e.1, length-map _ _)))
    g.T.Layout.layout c.in_ok-set.ensures
    (sym c.len.ensures.len ∙ c.if-len-length.false)
