use Rattle.std.proofs.Common.{◌∙◌, ◌*◌, ◌+◌, ◌-◌, length, take, refl, ap, arith}
use Rattle.std.proofs.lemmas.List.{length-map, length-take-le, take_all}
use borrow.Rule.Slice.PartMut.{same_len_mid, mid_len}
use Rattle.speedy_read.specs.ReadingLemmas.{none_so_far}
use Rattle.speedy_read.proofs.ListLemmas.{got_items}
use Rattle.speedy_read.proofs.ChunkLemmas.{more_numbers, numbers_refused, put_behind, chunk_fits}
use Rattle.speedy_read.proofs.bulk.fill_chunks.Goals as goal

pub loop-at-init : goal.loop-at-init
loop-at-init g c = (omega arith, refl, none_so_far refl)

pub loop-at-preserved : goal.loop-at-preserved
loop-at-preserved g c =
    let at = c.loop-at.at in
    let some = c.min-some.result in
    let places = c.loop-at.places in
    let so_far = c.loop-at.invariant.2 in
    let room = mid_len at (at + some) places (omega (arith, c.loop-at.invariant.0)) in
    let sized = c.take_each.auto.places ∙ room in
    let same = same_len_mid at (at + some - at) places c.take_each.new.places c.take_each.auto.places in
    let order =
    c.endianness.ensures ∙ ap (λ e. e.order) (c.in_ok-read_bytes.ensures.kept.mode ∙ so_far.kept.mode) in (
      omega (arith, same, c.loop-at.invariant.0),
      same ∙ c.loop-at.invariant.1,
      rw (put_behind places c.take_each.new.places at some c.loop-at.invariant.0 (omega (arith, sized)))
          (more_numbers g.T.Layout.layout.laws g.met.T.FixedNumber.fixed.is_fixed _ g.T.Layout.seen (length places)
          (take at places) c.take_each.new.places _ order so_far c.in_ok-read_bytes.ensures c.take_each.ensures),
    )

pub returns : goal.returns
returns g c =
    let all = take_all c.loop-at.at c.loop-at.places c.loop-at-test.false in
    got_items _ _ (rw all at c.loop-at.invariant.2)
    (length-map c.loop-at.places g.T.Layout.seen ∙ c.loop-at.invariant.1)

pub returns-in_err-read_bytes : goal.returns-in_err-read_bytes
returns-in_err-read_bytes g c =
    let at = c.loop-at.at in
    let count = length-take-le at c.loop-at.places c.loop-at.invariant.0 in
    numbers_refused g.T.Layout.layout.laws g.met.T.FixedNumber.fixed.is_fixed _ g.T.Layout.seen _
    (take at c.loop-at.places) c.min-some.result (omega (arith, count, c.loop-at.invariant.0, c.loop-at.invariant.1))
    (length-take-le (c.min-some.result * c.SIZE-in-loop-at.result) c.loop-at.chunk
    (chunk_fits {some = c.min-some.result} g.met.T.FixedNumber.fixed.is_fixed.has_bytes (omega arith) c.SIZE.ensures
    c.SIZE-in-loop-at.ensures c.loop-at.auto.chunk) ∙ ap (λ n. c.min-some.result * n) c.SIZE-in-loop-at.ensures)
    c.loop-at.invariant.2 c.from_residual.ensures.1 c.in_err-read_bytes.ensures
