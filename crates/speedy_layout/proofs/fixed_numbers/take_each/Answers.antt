use Rattle.std.proofs.Common.{◌∙◌, arith}
use Rattle.std.proofs.lemmas.List.{length-set}
use Rattle.speedy_base.specs.DigitsLemmas.{AreBytes-slice}
use Rattle.speedy_layout.specs.FixedNumbers.{encoded_in}
use Rattle.speedy_layout.proofs.FixedNumberLemmas.{room_ahead, one_more_times, one_more_taken, taken_encodes}
use Rattle.speedy_layout.proofs.fixed_numbers.take_each.Goals as goal

pub loop-place-preserved : goal.loop-place-preserved
loop-place-preserved g c =
    let i = c.loop-place.place-index in
    let at = c.loop-place.at in
    let encoded = taken_encodes g.T.Layout.layout.format g.T.Layout.seen g.met.T.FixedNumber.fixed.decodes c.args.order
    c.args.bytes.now at c.SIZE.result
    (room_ahead g.T.Digits.ByteArray.LENGTH at i _ c.SIZE.result _ c.loop-place-test.true c.loop-place.invariant.0
    c.SIZE.ensures c.requires) c.SIZE.ensures (AreBytes-slice c.args.bytes.now c.type_inv.bytes)
    c.decode.ensures in (
      one_more_times g.T.Digits.ByteArray.LENGTH i at c.SIZE.result c.loop-place.invariant.0 c.SIZE.ensures,
      length-set c.loop-place.places i c.decode.result ∙ c.loop-place.invariant.1,
      one_more_taken (encoded_in g.T.Layout.layout.format c.args.order) g.T.Layout.seen c.loop-place.places i at
          c.SIZE.result c.args.bytes.now (omega (arith, c.loop-place-test.true, c.loop-place.invariant.1)) encoded
          c.loop-place.invariant.2,
    )
