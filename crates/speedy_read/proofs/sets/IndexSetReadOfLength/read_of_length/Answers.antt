use Rattle.std.proofs.Common.{false, sym, ◌∙◌}
use Rattle.std.proofs.lemmas.List.{length-map}
use Rattle.speedy_layout.specs.CollectionLengths.{index_set_single, index_sets_are_forms}
use Rattle.speedy_layout.specs.IndexMaps.{index_set_seen}
use Rattle.speedy_layout.specs.Members.{AreDistinct}
use Rattle.speedy_layout.specs.OneMoreItem.{AreDistinct-first}
use Rattle.speedy_read.proofs.CollectionLengthLemmas.{own_tells, of_length_refused, of_length_repeated}
use Rattle.speedy_read.proofs.CollectionLengthLemmas.{of_length_read}
use Rattle.speedy_read.proofs.sets.IndexSetReadOfLength.read_of_length.Goals as goal

pub returns-in_err-set : goal.returns-in_err-set
returns-in_err-set g c =
    of_length_refused AreDistinct false
    (own_tells index_set_single index_sets_are_forms (index_set_seen g.met.T.SameKey.same_key))
    g.T.Layout.layout c.args.length AreDistinct-first c.from_residual.ensures.1 c.in_err-set.ensures

pub returns-then-len-length : goal.returns-then-len-length
returns-then-len-length g c =
    of_length_repeated AreDistinct false
    (own_tells index_set_single index_sets_are_forms (index_set_seen g.met.T.SameKey.same_key))
    g.T.Layout.layout c.in_ok-set.ensures
    (λ e. c.if-len-length.true (c.len.ensures.len ∙ (sym (length-map _ _) ∙ e)))
    c.error_out_of_range_length.ensures

pub returns : goal.returns
returns g c =
    of_length_read AreDistinct false
    (own_tells index_set_single index_sets_are_forms (index_set_seen g.met.T.SameKey.same_key))
    g.T.Layout.layout c.in_ok-set.ensures
    (length-map _ _ ∙ (sym c.len.ensures.len ∙ c.if-len-length.false))
