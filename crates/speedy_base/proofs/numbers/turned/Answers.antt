use Rattle.std.proofs.Common.{◌∙◌, sym}
use Rattle.speedy_base.proofs.Conversions.{little_from_not_big}
use Rattle.speedy_base.proofs.Reversals.{turned-big, turned-little}
use Rattle.speedy_base.proofs.numbers.turned.Goals as goal

pub returns-then-conversion_necessary : goal.returns-then-conversion_necessary
returns-then-conversion_necessary g c = c.reversed.ensures
    ∙ sym (turned-big _ _ _ (c.conversion_necessary.ensures.0 c.if-conversion_necessary.true))

pub returns-else-conversion_necessary : goal.returns-else-conversion_necessary
returns-else-conversion_necessary g c =
    sym (turned-little _ _ _ (little_from_not_big _ _ c.conversion_necessary.ensures c.if-conversion_necessary.false))
