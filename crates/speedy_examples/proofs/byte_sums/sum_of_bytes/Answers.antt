use Rattle.std.proofs.Common.{◌+◌, ◌++◌, ◌∙◌, ap, ap₂, sym, refl, arith, inl, inr}
use Rattle.std.specs.Prelude.{length}
use Rattle.std.proofs.lemmas.Bool.{cases_lt}
use Rattle.speedy.specs.declared.Endianness.TheVariants.{LittleEndian}
use Rattle.speedy.specs.Digits.{number}
use Rattle.speedy.specs.DigitsLemmas.{AreBytes-slice}
use Rattle.speedy.specs.Error.{passed_on}
use Rattle.speedy.specs.Mode.{plain_mode}
use Rattle.speedy.specs.Numbers.{unsigned_number}
use Rattle.speedy.specs.Sequences.{sequence}
use Rattle.speedy_examples.proofs.PairLemmas.{begins_with_two}
use Rattle.speedy_examples.proofs.byte_sums.sum_of_bytes.Goals as goal

pub returns-clause-sum : goal.returns-clause-sum
unfolding sequence unsigned_number number
returns-clause-sum c =
    let read = c.in_ok-pair.ensures.1.value in
    let parts = read.prefix_is in (
      parts.prefix,
      parts.suffix,
      read.rest,
      read.whole_is ∙ ap (λ taken. taken ++ read.rest) parts.whole_is,
      parts.first_is.width_is,
      parts.second_is.width_is,
      ap₂ (λ x y. x + y) (c.from.ensures ∙ sym parts.first_is.value_is)
          (c.from-2.ensures ∙ sym parts.second_is.value_is),
    )

pub returns-in_err-pair-clause-refused : goal.returns-in_err-pair-clause-refused
unfolding sequence unsigned_number
returns-in_err-pair-clause-refused c =
    let answered = c.in_err-pair.ensures.1 in
    let none = c.refused_is_none.ensures.none {mode = plain_mode LittleEndian} refl answered in
    rw (← passed_on _ _ c.from_residual.ensures.1) (elim (cases_lt (length c.args.bytes.now) 4) [
      | inl few ↦ (few, (answered.too_small few).0)
      | inr many ↦
          let begins = begins_with_two c.args.bytes.now (AreBytes-slice _ c.type_inv.bytes) (omega (arith, many)) in
          absurd (none begins.0 begins.1 begins.2)
    ])
