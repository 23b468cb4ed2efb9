-- How signed numbers are encoded: two's complement.
use Rattle.std.specs.Prelude.{ℕ, ℤ, List}
use Rattle.std.specs.Int.{Width, byte_len, cast_unsigned, cast_signed}
use Rattle.std.specs.Int.RustNames.{FitsSigned}
use Rattle.speedy_base.specs.declared.endianness.Endianness.{Endianness}
use Rattle.speedy_base.specs.declared.endianness.Endianness.TheVariants.{LittleEndian, BigEndian}
use Rattle.speedy_base.specs.Digits.{EncodesNumber, swapped}

-- a number of the type, by the digits of the unsigned number that has its bits: itself, or of a negative one what lies
-- `2 ^ bits` above it
pub record EncodesSigned (w : Width) (order : Endianness) (z : ℤ) (bytes : List ℕ) : Type 0 where
  pub range : FitsSigned w z
  pub digits : EncodesNumber (byte_len w) order (cast_unsigned w z) bytes

-- the signed number whose digits are the same, reversed under big
unfoldable pub swapped_signed : Endianness → Width → ℤ → ℤ
swapped_signed LittleEndian w z = z
swapped_signed BigEndian w z = cast_signed w (swapped BigEndian (byte_len w) (cast_unsigned w z))
