use Rattle.std.proofs.Common.{◌∙◌, ◌<◌, ℕ, ap, subst, length, sym, vec_len, vec_capacity}
use Rattle.std.specs.Slice.Iter.{chunks_exact_rest, chunks_exact_size}
use Rattle.speedy_base.specs.DigitsLemmas.{AreBytes-slice}
use Rattle.speedy_layout.proofs.FixedNumberLemmas.{none_appended, room_for_next, next_are_bytes, one_more_appended}
use Rattle.speedy_layout.proofs.FixedNumberLemmas.{all_appended, encoding_stands}
use Rattle.speedy_layout.proofs.fixed_numbers.append_each.Goals as goal

pub loop-digits-init : goal.loop-digits-init
loop-digits-init g c =
    let same = c.into_iter-digits-iterator.ensures.into_iter_gives in (
      ap chunks_exact_size same ∙ (c.chunks_exact-digits-items.ensures.size ∙ c.SIZE.ensures),
      none_appended _ _ _ c.requires.0 (ap chunks_exact_rest same ∙ c.chunks_exact-digits-items.ensures.rest)
          c.requires.1 c.requires.2,
    )

pub push_reserved-requires : goal.push_reserved-requires
push_reserved-requires g c =
    let step = c.in-Some.ensures.steps in
    room_for_next c.loop-digits.invariant.1 c.in-Some.digits.now _ g.met.T.FixedNumber.fixed.is_fixed.has_bytes step.1.0
    (step.1.1 ∙ c.loop-digits.invariant.0)

pub loop-digits-preserved : goal.loop-digits-preserved
loop-digits-preserved g c =
    let step = c.in-Some.ensures.steps in
    let h = c.loop-digits.invariant.1 in
    let digits = c.in-Some.digits.now in
    let sized = step.1.1 ∙ c.loop-digits.invariant.0 in
    let encoded = encoding_stands g.T.Layout.layout.format g.T.Layout.seen g.met.T.FixedNumber.fixed.decodes
    c.args.order digits sized
    (next_are_bytes h digits _ step.1.0 (AreBytes-slice c.args.bytes.now c.type_inv.bytes)) (sym c.decode.ensures) in (
      step.0 ∙ c.loop-digits.invariant.0,
      one_more_appended h {new = c.push_reserved.new.self.items} {used' = vec_len c.push_reserved.new.self}
          {room' = vec_capacity c.push_reserved.new.self} digits _ g.met.T.FixedNumber.fixed.is_fixed.has_bytes step.1.0
          sized encoded c.push_reserved.ensures.items c.push_reserved.ensures.len c.push_reserved.ensures.capacity,
    )

pub returns : goal.returns
returns g c =
    let h = c.loop-digits.invariant in
    all_appended h.1 (subst (λ (n : ℕ). length (chunks_exact_rest c.loop-digits.digits-iterator) < n) h.0
    c.in-None.ensures.steps.1.0)
