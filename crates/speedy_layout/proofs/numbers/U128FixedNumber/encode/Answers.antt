use Rattle.std.proofs.Common.{subst, sym, ◌∙◌, arith}
use Rattle.speedy_base.specs.Digits.{AreBytes, number}
use Rattle.speedy_base.specs.DigitsLemmas.{AreBytes-little_digits, little_number-little_digits}
use Rattle.speedy_base.specs.DigitsLemmas.{EncodesNumber-high_first}
use Rattle.speedy_layout.proofs.numbers.U128FixedNumber.encode.Goals as goal

pub returns-in-LittleEndian-clause-bytes : goal.returns-in-LittleEndian-clause-bytes
returns-in-LittleEndian-clause-bytes c =
    subst AreBytes (sym c.put_two.ensures) (AreBytes-little_digits 16 _)

pub returns-in-LittleEndian-clause-number : goal.returns-in-LittleEndian-clause-number
unfolding number
returns-in-LittleEndian-clause-number c =
    (λ i. number (c.in-LittleEndian.is i) (c.put_two.ensures i))
    ∙ little_number-little_digits 16 _ (omega (arith, c.ranges.self.fits)) ∙ omega arith

pub returns-in-BigEndian-clause-number : goal.returns-in-BigEndian-clause-number
returns-in-BigEndian-clause-number c =
    let high = c.encode.ensures in
    let low = c.encode-in-BigEndian.ensures in
    (EncodesNumber-high_first 8 _ _ _ _ _ _ c.in-BigEndian.is
    (record { width_is = omega arith; are_bytes = high.bytes; value_is = high.number })
    (record { width_is = omega arith; are_bytes = low.bytes; value_is = low.number }) (omega arith)).value_is
