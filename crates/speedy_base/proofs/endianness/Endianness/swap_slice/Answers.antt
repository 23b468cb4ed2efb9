use Rattle.std.proofs.Common.{◌∙◌, sym}
use Rattle.speedy_base.specs.Digits.{turned_in}
use Rattle.speedy_base.proofs.Conversions.{little_from_not_big}
use Rattle.speedy_base.proofs.Mapping.{passed_more, map_same}
use Rattle.speedy_base.proofs.Reversals.{turned-big, turned-little}
use Rattle.speedy_base.proofs.endianness.Endianness.swap_slice.Goals as goal

pub loop-value-preserved : goal.loop-value-preserved
loop-value-preserved g c =
    let is_big = c.conversion_necessary.ensures.0 c.if-conversion_necessary.true in
    passed_more (turned_in c.args.self g.T.Swap.reversed) _ _ _ c.value-item.result _ c.loop-value-test.true
    c.loop-value.invariant (c.reversed.ensures ∙ sym (turned-big _ _ _ is_big))

pub returns-else-conversion_necessary : goal.returns-else-conversion_necessary
returns-else-conversion_necessary g c =
    let is_little = little_from_not_big _ _ c.conversion_necessary.ensures c.if-conversion_necessary.false in
    sym (map_same (turned_in c.args.self g.T.Swap.reversed) _ (λ n. turned-little _ _ n is_little))
