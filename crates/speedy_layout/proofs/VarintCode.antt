-- What the code of `VarInt64` computes is the format `varint`.
use Rattle.std.proofs.Common.{◌≡◌, ℕ, zero, suc, ◌+◌, ◌-◌, ◌*◌, ◌/◌, ◌%◌, ◌^◌, ◌<◌, ◌≤◌, List, [], ◌∷◌, ◌++◌, length}
use Rattle.std.proofs.Common.{take, drop, min, inl, inr, lit<, add-one, refl, sym, ap, ap₂, ◌∙◌, subst, arith}
use Rattle.std.proofs.Math.Pow.{pow_mono}
use Rattle.std.proofs.Math.Nat.{pow-suc, one-le-pow, mul-zero}
use Rattle.std.proofs.lemmas.Bool.{cases_lt}
use Rattle.std.specs.Int.{w64, from_le_bytes}
use Rattle.std.proofs.lemmas.Nat.{leading_length, div-mul-add, mod-mul-add, div_below, pow-add, pow_pos, shl_whole}
use lib.Count.{count_leading_zeros}
use Rattle.std.proofs.lemmas.List.{take-append-drop, length-take-le, length-append, length-drop}
use Rattle.speedy_base.specs.declared.endianness.Endianness.TheVariants.{LittleEndian}
use Rattle.speedy_base.specs.Digits.{EncodesNumber, number, little_number, AreBytes}
use Rattle.speedy_base.specs.DigitsLemmas.{little_number-append, little_number-from_le_bytes, AreBytes-append_parts}
use Rattle.speedy_base.specs.DigitsLemmas.{little_number-below}
use Rattle.speedy_base.specs.Mode.{Mode}
use Rattle.speedy_layout.specs.Varint.{IsFirstByte, StartsVarint, HasNoShorter, varint, byte_power, capacity}
use Rattle.speedy_layout.proofs.VarintForms.{varint-written}

-- the mark of n leading ones
pub mark : (k : ℕ) → k ≤ 8 → 256 / 2 ^ k ≡ 2 ^ (8 - k)
mark k l =
    let bits : 8 ≡ (8 - k) + k = omega arith in
    let whole = ap (λ (i : ℕ). 2 ^ i) bits ∙ pow-add 2 (8 - k) k in
    let parts : 256 ≡ 2 ^ (8 - k) * 2 ^ k + 0 = omega arith in
    ap (λ (i : ℕ). i / 2 ^ k) parts ∙ div-mul-add (2 ^ (8 - k)) (2 ^ k) 0 (pow_pos k)

-- a number of n bits needs m bytes after the first one
pub no_shorter_from_power : (k n : ℕ) → (0 < k → 2 ^ (7 * k) ≤ n) → HasNoShorter k n
no_shorter_from_power k n h j l =
    let up : 2 ^ (7 * (j + 1)) ≤ 2 ^ (7 * k) = pow_mono {i = 7 * (j + 1)} {j = 7 * k} (omega arith) in
    let some = h (omega arith) in
    omega arith

-- the part of a first byte above its low part, as the code computes it
pub first_byte_is : (k low : ℕ) → k ≤ 8 → low < 2 ^ (7 - k) → IsFirstByte k low ((256 - 256 / 2 ^ k) + low)
first_byte_is k low l small = record {
  at_most_eight = l;
  low_is_below = small;
  byte_is = ap (λ (i : ℕ). (256 - i) + low) (mark k l);
}

-- which fits a byte
pub first_byte_fits : (k low x : ℕ) → IsFirstByte k low x → x < 256
first_byte_fits k low x h =
    let eight = h.at_most_eight in
    let small = h.low_is_below in
    let e = h.byte_is in
    let within : 2 ^ (8 - k) ≤ 2 ^ 8 = pow_mono {i = 8 - k} {j = 8} (omega arith) in
    let above : 2 ^ (7 - k) ≤ 2 ^ (8 - k) = pow_mono {i = 7 - k} {j = 8 - k} (omega arith) in
    omega arith

-- ---- the first byte's ones

starts : (k x : ℕ) → k ≤ 8 → x < 256 → 255 - x < 2 ^ (8 - k) → 2 ^ (8 - k) ≤ 2 * (255 - x) + 1 → StartsVarint k x
starts k x l small below above =
    elim (cases_lt k 8) [
      | inl less ↦ (
          let one_more : 8 - k ≡ suc (7 - k) = omega arith in
          let double : 2 ^ (8 - k) ≡ 2 ^ (7 - k) * 2 = ap (λ (i : ℕ). 2 ^ i) one_more ∙ pow-suc 2 (7 - k) in
          (x - (256 - 2 ^ (8 - k)), record { at_most_eight = l; low_is_below = omega arith; byte_is = omega arith }))
      | inr more ↦ (
          let same : k ≡ 8 = omega arith in
          let one : 2 ^ (8 - k) ≡ 1 = ap (λ (i : ℕ). 2 ^ (8 - i)) same in
          let none : 2 ^ (7 - k) ≡ 1 = ap (λ (i : ℕ). 2 ^ (7 - i)) same in
          (0, record { at_most_eight = l; low_is_below = omega arith; byte_is = omega arith }))
    ]

pub StartsVarint-leading_ones : (k x : ℕ) → x < 256 → k ≡ count_leading_zeros 8 (255 - x) → StartsVarint k x
StartsVarint-leading_ones k x l e =
    let zeros = leading_length 8 (255 - x) (omega arith) in
    let m = zeros.0 in
    let sum : count_leading_zeros 8 (255 - x) + m ≡ 8 = zeros.1 in
    let m_is : m ≡ 8 - k = omega arith in
    let below : 255 - x < 2 ^ (8 - k) = subst (λ (i : ℕ). 255 - x < 2 ^ i) m_is zeros.2 in
    let above : 2 ^ (8 - k) ≤ 2 * (255 - x) + 1 = subst (λ (i : ℕ). 2 ^ i ≤ 2 * (255 - x) + 1) m_is zeros.3 in
    starts k x (omega arith) l below above

-- ---- as many bytes as are needed

pub enough_bytes : (k n m : ℕ) → k ≡ min ((m - 1) / 7) 8 → m ≤ 64 → n < 2 ^ m → n < 2 ^ (7 - k) * 256 ^ k
enough_bytes k n m e l small =
    elim (cases_lt k 8) [
      | inl less ↦ (
          let up : 2 ^ m ≤ 2 ^ (7 * (k + 1)) = pow_mono {i = m} {j = 7 * (k + 1)} (omega arith) in
          let bound = capacity k (omega arith) in
          omega arith)
      | inr more ↦ (
          let same : 8 ≡ k = omega arith in
          let up : 2 ^ m ≤ 2 ^ 64 = pow_mono {i = m} {j = 64} l in
          let all : n < 2 ^ 64 = omega arith in
          subst (λ (i : ℕ). n < 2 ^ (7 - i) * 256 ^ i) same all)
    ]

pub no_shorter_bytes : (k n m : ℕ) → k ≡ min ((m - 1) / 7) 8 → 2 ^ m ≤ 2 * n + 1 → HasNoShorter k n
no_shorter_bytes k n m e l = no_shorter_from_power k n (λ some.
    let low : 2 ^ (7 * k) ≤ 2 ^ (m - 1) = pow_mono {i = 7 * k} {j = m - 1} (omega arith) in
    let one_more : m ≡ suc (m - 1) = omega arith in
    let double : 2 ^ m ≡ 2 ^ (m - 1) * 2 = ap (λ (i : ℕ). 2 ^ i) one_more ∙ pow-suc 2 (m - 1) in
    omega arith)

-- ---- encoding

-- the front of the digits encodes the low part of the number
pub EncodesNumber-prefix : (k w n : ℕ) (bytes : List ℕ) → k ≤ w → EncodesNumber w LittleEndian n bytes
    → EncodesNumber k LittleEndian (n % 256 ^ k) (take k bytes)
unfolding number
EncodesNumber-prefix k w n bytes l h =
    let parts = take-append-drop k bytes in
    let width : length (take k bytes) ≡ k = length-take-le k bytes (let e = h.width_is in omega arith) in
    let each = AreBytes-append_parts (take k bytes) (drop k bytes) (subst AreBytes (sym parts) h.are_bytes) in
    let low : little_number (take k bytes) < 256 ^ k =
    subst (λ (i : ℕ). little_number (take k bytes) < 256 ^ i) width (little_number-below (take k bytes) each.0) in
    let whole : n ≡ little_number (take k bytes) + 256 ^ k * little_number (drop k bytes) =
    sym h.value_is
    ∙ (ap little_number (sym parts) ∙ (little_number-append (take k bytes) (drop k bytes)
    ∙ ap (λ (i : ℕ). little_number (take k bytes) + 256 ^ i * little_number (drop k bytes)) width)) in
    let turned : n ≡ little_number (drop k bytes) * 256 ^ k + little_number (take k bytes) = omega arith in
    record {
      width_is = width;
      are_bytes = each.0;
      value_is =
          sym (ap (λ (i : ℕ). i % 256 ^ k) turned
          ∙ mod-mul-add (little_number (drop k bytes)) (256 ^ k) (little_number (take k bytes)) low);
    }

-- the low part of the first byte is small enough
pub low_below : (k n : ℕ) → n < 2 ^ (7 - k) * 256 ^ k → n / 256 ^ k < 2 ^ (7 - k)
low_below k n small = div_below n (256 ^ k) (2 ^ (7 - k)) (one-le-pow k 256 (lit< tt)) small

-- with nine bytes there is none
pub no_low : (k n : ℕ) → k ≤ 8 → 8 ≤ k → n < 2 ^ (7 - k) * 256 ^ k → 0 ≡ n / 256 ^ k
no_low k n l m small =
    let same : k ≡ 8 = omega arith in
    let none : 2 ^ (7 - k) ≡ 1 = ap (λ (i : ℕ). 2 ^ (7 - i)) same in
    let below = low_below k n small in
    omega arith

pub written : (mode : Mode) (n k low : ℕ) (bytes items : List ℕ) → k ≤ 8 → n < 2 ^ (7 - k) * 256 ^ k
    → HasNoShorter k n → low ≡ n / 256 ^ k → EncodesNumber 8 LittleEndian n bytes → items ≡ bytes
    → (varint mode).writes n (take (k + 1) (((256 - 256 / 2 ^ k) + low) ∷ items))
written mode n k low bytes items l small no_shorter low_is digits same =
    let first = (256 - 256 / 2 ^ k) + low in
    let below = subst (λ (i : ℕ). i < 2 ^ (7 - k)) (sym low_is) (low_below k n small) in
    let whole : take (k + 1) (first ∷ items) ≡ first ∷ take k bytes =
    ap₂ (λ (i : ℕ) (xs : List ℕ). take i (first ∷ xs)) (add-one k) same in
    subst ((varint mode).writes n) (sym whole)
    (varint-written mode k n first (take k bytes) (record {
      at_most_eight = l;
      enough = small;
      no_shorter = no_shorter;
    })
    (subst (λ (i : ℕ). IsFirstByte k i first) low_is (first_byte_is k low l below))
    (EncodesNumber-prefix k 8 n bytes l digits))

-- ---- decoding

abbrev pub zeros : List ℕ
zeros = 0 ∷ 0 ∷ 0 ∷ 0 ∷ 0 ∷ 0 ∷ 0 ∷ 0 ∷ []

zeros_add_nothing : (k : ℕ) → little_number (drop k zeros) ≡ 0
zeros_add_nothing zero = refl
zeros_add_nothing (suc zero) = refl
zeros_add_nothing (suc (suc zero)) = refl
zeros_add_nothing (suc (suc (suc zero))) = refl
zeros_add_nothing (suc (suc (suc (suc zero)))) = refl
zeros_add_nothing (suc (suc (suc (suc (suc zero))))) = refl
zeros_add_nothing (suc (suc (suc (suc (suc (suc zero)))))) = refl
zeros_add_nothing (suc (suc (suc (suc (suc (suc (suc zero))))))) = refl
zeros_add_nothing (suc (suc (suc (suc (suc (suc (suc (suc zero)))))))) = refl
zeros_add_nothing (suc (suc (suc (suc (suc (suc (suc (suc (suc k))))))))) = refl

-- digits that are filled up with zeros
pub EncodesNumber-padded : (n : ℕ) (bytes : List ℕ) → length bytes ≤ 8 → AreBytes bytes
    → n ≡ from_le_bytes w64 (bytes ++ drop (length bytes) zeros) → EncodesNumber (length bytes) LittleEndian n bytes
unfolding number
EncodesNumber-padded n bytes l are e =
    let width : length (bytes ++ drop (length bytes) zeros) ≡ 8 = simp (length-append, length-drop) (omega arith) in
    let none = zeros_add_nothing (length bytes) in
    let sum = little_number-append bytes (drop (length bytes) zeros) in
    let value : n ≡ little_number (bytes ++ drop (length bytes) zeros) =
    e ∙ little_number-from_le_bytes w64 (bytes ++ drop (length bytes) zeros) width in
    record {
      width_is = refl;
      are_bytes = are;
      value_is = let nothing : 256 ^ length bytes * little_number (drop (length bytes) zeros) ≡ 0 =
          ap (λ (i : ℕ). 256 ^ length bytes * i) none ∙ mul-zero (256 ^ length bytes) in omega arith;
    }

-- the low part, as the code computes it
pub low_is : (k low x : ℕ) → IsFirstByte k low x → x - (256 - 256 / 2 ^ k) ≡ low
low_is k low x h = let m = mark k h.at_most_eight in let e = h.byte_is in omega arith

pub mark_below : (k low x : ℕ) → IsFirstByte k low x → 256 - 256 / 2 ^ k ≤ x
mark_below k low x h = let m = mark k h.at_most_eight in let e = h.byte_is in omega arith

-- with nine bytes the low part is 0
pub high_at_eight : (k low x : ℕ) → 8 ≤ k → IsFirstByte k low x → 0 ≡ low * 256 ^ k
high_at_eight k low x l h =
    let same : k ≡ 8 = let m = h.at_most_eight in omega arith in
    let none : 2 ^ (7 - k) ≡ 1 = ap (λ (i : ℕ). 2 ^ (7 - i)) same in
    let small = h.low_is_below in
    let zero_low : low ≡ 0 = omega arith in
    rw zero_low (omega arith)

-- and otherwise the shift loses nothing
pub high_below_eight : (k low x : ℕ) → k < 8 → IsFirstByte k low x
    → ((x - (256 - 256 / 2 ^ k)) * 2 ^ (8 * k)) % 2 ^ 64 ≡ low * 256 ^ k
high_below_eight k low x l h =
    let up : 2 ^ ((7 - k) + 8 * k) ≤ 2 ^ 64 = pow_mono {i = (7 - k) + 8 * k} {j = 64} (omega arith) in
    ap (λ (i : ℕ). (i * 2 ^ (8 * k)) % 2 ^ 64) (low_is k low x h)
    ∙ (shl_whole low (7 - k) (8 * k) 64 h.low_is_below (omega arith)
    ∙ ap (λ (i : ℕ). low * i) (byte_power k))
