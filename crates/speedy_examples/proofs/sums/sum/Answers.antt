use Rattle.std.proofs.Common.{refl}
use Rattle.speedy.specs.declared.Endianness.TheVariants.{LittleEndian}
use Rattle.speedy.specs.Error.{passed_on}
use Rattle.speedy.specs.Mode.{plain_mode}
use Rattle.speedy.specs.Numbers.{unsigned_number}
use Rattle.speedy.specs.Sequences.{sequence}
use Rattle.speedy_examples.proofs.sums.sum.Goals as goal

pub returns-in_err-pair-clause-refused : goal.returns-in_err-pair-clause-refused
unfolding sequence unsigned_number
returns-in_err-pair-clause-refused c =
    let none = c.refused_is_none.ensures.none {mode = plain_mode LittleEndian} refl c.in_err-pair.ensures.1 in
    rw (← passed_on _ _ c.from_residual.ensures.1) none
