-- What holds of the digits of signed numbers, at each width and in both orders.
use Rattle.std.specs.Prelude.{◌≡◌, ℕ, ℤ, ◌<◌, List}
use Rattle.std.proofs.Common.{sym, ◌∙◌, ap, subst}
use mir.Val.{Fits}
use mir.ValLaws.{to_z-of_z, of_z-to_z, to_z-Fits}
use Rattle.std.specs.Int.{Width, byte_len, cast_unsigned, cast_signed}
use Rattle.std.specs.Int.RustNames.{FitsSigned}
use Rattle.speedy_base.specs.declared.endianness.Endianness.{Endianness}
use Rattle.speedy_base.specs.Digits.{EncodesNumber}
use Rattle.speedy_base.specs.DigitsLemmas.{EncodesNumber-below, EncodesNumber-same_value, pow-byte_len}
use Rattle.speedy_base.specs.Signed.{EncodesSigned}

-- a number that has an encoding fits the width
fits : (w : Width) (order : Endianness) (n : ℕ) (bytes : List ℕ) → EncodesNumber (byte_len w) order n bytes → Fits w n
fits w order n bytes s =
    record { fits = subst (λ (m : ℕ). n < m) (sym (pow-byte_len w)) (EncodesNumber-below (byte_len w) order n bytes s) }

-- the signed number of the same bits has the same encoding
pub EncodesSigned-cast_signed : (w : Width) (order : Endianness) (n : ℕ) (bytes : List ℕ)
    → EncodesNumber (byte_len w) order n bytes
    → EncodesSigned w order (cast_signed w n) bytes
EncodesSigned-cast_signed w order n bytes s = record {
  range = to_z-Fits w n (fits w order n bytes s);
  digits = subst (λ (m : ℕ). EncodesNumber (byte_len w) order m bytes) (sym (of_z-to_z w n (fits w order n bytes s))) s;
}

-- signed numbers of the same bits are the same
pub cast_unsigned-same : (w : Width) (y z : ℤ) → FitsSigned w y → FitsSigned w z
    → cast_unsigned w y ≡ cast_unsigned w z → y ≡ z
cast_unsigned-same w y z f g e = sym (to_z-of_z w y f) ∙ (ap (cast_signed w) e ∙ to_z-of_z w z g)

-- the same bytes encode one number
pub EncodesSigned-same_value : (w : Width) (order : Endianness) (y z : ℤ) (bytes : List ℕ)
    → EncodesSigned w order y bytes
    → EncodesSigned w order z bytes → y ≡ z
EncodesSigned-same_value w order y z bytes s t = cast_unsigned-same w y z s.range t.range
    (EncodesNumber-same_value (byte_len w) order (cast_unsigned w y) (cast_unsigned w z) bytes s.digits t.digits)
