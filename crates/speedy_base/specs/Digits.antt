-- How numbers are encoded: base 256 digits, in either byte order.
use Rattle.std.specs.Prelude.{◌≡◌, ℕ, zero, suc, ◌+◌, ◌*◌, ◌/◌, ◌%◌, ◌<◌, List, [], ◌∷◌, length, reverse, nat_eq, cond}
use Rattle.std.specs.List.{AllByRecursion}
use Rattle.std.specs.Int.{Width, w16, w32, w64, w128}
use Rattle.speedy_base.specs.declared.endianness.Endianness.{Endianness}
use Rattle.speedy_base.specs.declared.endianness.Endianness.TheVariants.{LittleEndian, BigEndian}

-- the base 256 value of the digits, least digit first
abbrev pub little_number : List ℕ → ℕ
little_number [] = 0
little_number (b ∷ bs) = b + 256 * little_number bs

-- the base 256 value of the digits: least digit first under little, greatest first under big
unfoldable pub number : Endianness → List ℕ → ℕ
number LittleEndian bytes = little_number bytes
number BigEndian bytes = little_number (reverse bytes)

-- the lowest digits of a number, least digit first
abbrev pub little_digits : ℕ → ℕ → List ℕ
little_digits zero n = []
little_digits (suc width) n = n % 256 ∷ little_digits width (n / 256)

-- the n digits of a number
unfoldable pub digits : Endianness → ℕ → ℕ → List ℕ
digits LittleEndian width n = little_digits width n
digits BigEndian width n = reverse (little_digits width n)

-- each item is a byte
abbrev pub AreBytes : List ℕ → Type 0
AreBytes bytes = AllByRecursion (λ b. b < 256) bytes

-- README, "as-is": n digits, each a byte, with this value in this order
pub record EncodesNumber (width : ℕ) (order : Endianness) (n : ℕ) (bytes : List ℕ) : Type 0 where
  pub width_is : length bytes ≡ width
  pub are_bytes : AreBytes bytes
  pub value_is : number order bytes ≡ n

-- the number whose digits are the same, reversed under big
unfoldable pub swapped : Endianness → ℕ → ℕ → ℕ
swapped LittleEndian width n = n
swapped BigEndian width n = number BigEndian (digits LittleEndian width n)

-- what is reversed where the order is big
unfoldable pub turned_in : {A : Type 0} → Endianness → (A → A) → A → A
turned_in LittleEndian reversed x = x
turned_in BigEndian reversed x = reversed x

-- the width of n bytes
abbrev pub width_of : ℕ → Width
width_of size =
    cond (nat_eq size 2) w16 (cond (nat_eq size 4) w32 (cond (nat_eq size 8) w64 w128))
