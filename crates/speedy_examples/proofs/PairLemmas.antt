-- Two numbers of two bytes each, in little endian.
use Rattle.std.specs.Prelude.{◌≡◌, ℕ, ◌≤◌, List, [], ◌∷◌, ◌++◌, length, refl}
use Rattle.std.proofs.Common.{arith}
use Rattle.speedy.specs.declared.Endianness.TheVariants.{LittleEndian}
use Rattle.speedy.specs.Digits.{AreBytes, little_number, number, EncodesNumber}
use Rattle.speedy.specs.Format.{Format, Parts-joined}
use Rattle.speedy.specs.Mode.{plain_mode}
use Rattle.speedy.specs.Numbers.{unsigned_number}
use Rattle.speedy.specs.Prefixes.{BeginsWith}
use Rattle.speedy.specs.Sequences.{sequence}
use Rattle.speedy.specs.Tuples.{pair}

abbrev pub two_numbers : Format (ℕ × ℕ)
two_numbers = pair (unsigned_number 2 (plain_mode LittleEndian)) (unsigned_number 2 (plain_mode LittleEndian))

two_bytes : (a b : ℕ) → AreBytes (a ∷ b ∷ []) → EncodesNumber 2 LittleEndian (little_number (a ∷ b ∷ [])) (a ∷ b ∷ [])
unfolding number
two_bytes a b are = record { width_is = refl; are_bytes = are; value_is = refl }

-- any four bytes begin with two of them
pub begins_with_two : (bytes : List ℕ) → AreBytes bytes → 4 ≤ length bytes
    → (numbers : ℕ × ℕ) × (rest : List ℕ) × BeginsWith two_numbers numbers bytes rest
unfolding sequence unsigned_number
begins_with_two [] are enough = absurd (omega (arith, enough))
begins_with_two (a ∷ []) are enough = absurd (omega (arith, enough))
begins_with_two (a ∷ b ∷ []) are enough = absurd (omega (arith, enough))
begins_with_two (a ∷ b ∷ c ∷ []) are enough = absurd (omega (arith, enough))
begins_with_two (a ∷ b ∷ c ∷ d ∷ rest) are enough =
    let first = a ∷ b ∷ [] in
    let second = c ∷ d ∷ [] in
    let encoded = Parts-joined first second (two_bytes a b (are.0, (are.1.0, tt)))
    (two_bytes c d (are.1.1.0, (are.1.1.1.0, tt))) in
    ((little_number first, little_number second), rest, (first ++ second, encoded, refl))
