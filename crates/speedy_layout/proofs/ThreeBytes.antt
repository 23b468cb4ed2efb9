-- Numbers of three bytes, and their bytes.
use Rattle.std.specs.Prelude.{◌≡◌, ℕ, ◌/◌, ◌%◌, ◌^◌, ◌<◌, List, [], ◌∷◌, length}
use Rattle.std.proofs.Common.{refl, sym, subst, arith}
use Rattle.std.proofs.Math.ListN.{get_or}
use Rattle.speedy_base.specs.declared.endianness.Endianness.{Endianness}
use Rattle.speedy_base.specs.declared.endianness.Endianness.TheVariants.{LittleEndian, BigEndian}
use Rattle.speedy_base.specs.Digits.{little_number, number}

-- the number of three bytes is that of its digits, least first
little_three : (bytes : List ℕ) → length bytes ≡ 3
    → little_number (get_or bytes 0 0 ∷ get_or bytes 1 0 ∷ get_or bytes 2 0 ∷ []) ≡ number LittleEndian bytes
unfolding number
little_three [] l = absurd (omega arith)
little_three (a ∷ []) l = absurd (omega arith)
little_three (a ∷ b ∷ []) l = absurd (omega arith)
little_three (a ∷ b ∷ c ∷ []) l = refl
little_three (a ∷ b ∷ c ∷ d ∷ bytes) l = absurd (omega arith)

big_three : (bytes : List ℕ) → length bytes ≡ 3
    → little_number (get_or bytes 2 0 ∷ get_or bytes 1 0 ∷ get_or bytes 0 0 ∷ []) ≡ number BigEndian bytes
unfolding number
big_three [] l = absurd (omega arith)
big_three (a ∷ []) l = absurd (omega arith)
big_three (a ∷ b ∷ []) l = absurd (omega arith)
big_three (a ∷ b ∷ c ∷ []) l = refl
big_three (a ∷ b ∷ c ∷ d ∷ bytes) l = absurd (omega arith)

pub number_of_three_low_first : (order : Endianness) (bytes : List ℕ) → order ≡ LittleEndian → length bytes ≡ 3
    → little_number (get_or bytes 0 0 ∷ get_or bytes 1 0 ∷ get_or bytes 2 0 ∷ []) ≡ number order bytes
number_of_three_low_first order bytes is l =
    subst (λ (o : Endianness).
    little_number (get_or bytes 0 0 ∷ get_or bytes 1 0 ∷ get_or bytes 2 0 ∷ []) ≡ number o bytes)
    (sym is) (little_three bytes l)

pub number_of_three_high_first : (order : Endianness) (bytes : List ℕ) → order ≡ BigEndian → length bytes ≡ 3
    → little_number (get_or bytes 2 0 ∷ get_or bytes 1 0 ∷ get_or bytes 0 0 ∷ []) ≡ number order bytes
number_of_three_high_first order bytes is l =
    subst (λ (o : Endianness).
    little_number (get_or bytes 2 0 ∷ get_or bytes 1 0 ∷ get_or bytes 0 0 ∷ []) ≡ number o bytes)
    (sym is) (big_three bytes l)

-- what is put of a number is its digits
pub three_put_low_first : (order : Endianness) (n : ℕ) → order ≡ LittleEndian → n < 2 ^ 24
    → number order (n % 256 ∷ n / 256 % 256 ∷ n / 65536 ∷ []) ≡ n
unfolding number
three_put_low_first order n is l =
    subst (λ (o : Endianness). number o (n % 256 ∷ n / 256 % 256 ∷ n / 65536 ∷ []) ≡ n) (sym is)
    (let same : little_number (n % 256 ∷ n / 256 % 256 ∷ n / 65536 ∷ []) ≡ n = omega arith in same)

pub three_put_high_first : (order : Endianness) (n : ℕ) → order ≡ BigEndian → n < 2 ^ 24
    → number order (n / 65536 ∷ n / 256 % 256 ∷ n % 256 ∷ []) ≡ n
unfolding number
three_put_high_first order n is l =
    subst (λ (o : Endianness). number o (n / 65536 ∷ n / 256 % 256 ∷ n % 256 ∷ []) ≡ n) (sym is)
    (let same : little_number (n % 256 ∷ n / 256 % 256 ∷ n / 65536 ∷ []) ≡ n = omega arith in same)

pub ruleset three_bytes = (
  number_of_three_low_first,
  number_of_three_high_first,
  three_put_low_first,
  three_put_high_first,
)
