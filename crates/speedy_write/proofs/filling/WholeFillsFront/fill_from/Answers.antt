use Rattle.std.proofs.Common.{◌∙◌, length, arith, refl}
use Rattle.std.proofs.iter.Next as it
use borrow.Rule.Slice.PartMut.{same_len_mid, mid_len}
use Rattle.speedy_write.proofs.FrontLemmas.{item_filled, still_filled}
use Rattle.speedy_write.proofs.filling.WholeFillsFront.fill_from.Goals as goal

pub loop-item-init : goal.loop-item-init
loop-item-init g c =
    (refl, it.begun c.requires.0 c.requires.1 (record { within = omega arith; is_written = refl }))

pub next-requires : goal.next-requires
next-requires g c = c.loop-item.invariant.1.callable

pub loop-item-smaller : goal.loop-item-smaller
loop-item-smaller g c = it.less c.loop-item.invariant.1 c.in-Some.item c.in-Some.is c.next.ensures.goes

pub returns-in_default-fill_prefix-clause-fills : goal.returns-in_default-fill_prefix-clause-fills
returns-in_default-fill_prefix-clause-fills g c =
    let so_far = c.loop-item.invariant.1 in
    let found = it.found so_far c.in-Some.item c.in-Some.is c.next.ensures.goes in (
      so_far.seen,
      record {
        gave = it.Gave-then so_far c.in-Some.is c.next.ensures.steps;
        goes_on = (found.0, found.1, let less = found.2 in omega (arith, less));
      },
      still_filled _ _ _ (same_len_mid c.loop-item.end _ c.loop-item.buffer c.fill_prefix.new.buffer
          c.fill_prefix.auto.buffer) so_far.holds,
    )

pub loop-item-preserved : goal.loop-item-preserved
loop-item-preserved g c =
    let before = c.loop-item.invariant in
    let within = before.1.holds.within in
    let sized = mid_len c.loop-item.end (length c.loop-item.buffer) c.loop-item.buffer (omega arith) in (
      c.fill_prefix.ensures.mode ∙ before.0,
      it.again before.1 c.in-Some.item c.in-Some.is (c.next.ensures.steps, c.next.ensures.goes)
          (item_filled _ g.T.Layout.seen before.1.seen _ _
          (same_len_mid c.loop-item.end _ c.loop-item.buffer c.fill_prefix.new.buffer c.fill_prefix.auto.buffer)
          (omega (arith, within, c.fill_prefix.auto.buffer ∙ sized)) before.1.holds
          (rw before.0 at c.in-Some-fill_prefix.ensures.fills)),
    )
