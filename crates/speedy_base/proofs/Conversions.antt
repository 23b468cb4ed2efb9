-- That std's conversions between numbers and bytes are digits in base 256, as the functions of this crate call them.
use Rattle.std.proofs.Common.{◌≡◌, ◌↔◌, Bool, false, true≢false, IsTrue, ℕ, zero, suc, ◌+◌, ◌-◌, ◌*◌, ◌^◌, List}
use Rattle.std.proofs.Common.{[], ◌∷◌, length, reverse, slice_index, refl, sym, ap, ap₂, ◌∙◌, arith}
use Rattle.std.proofs.lemmas.List.{length-reverse}
use Rattle.std.specs.Int.{Width, byte_len, byte_worth, sum_through, from_be_bytes}
use Rattle.std.specs.Int.{swap_bytes}
use Rattle.speedy_base.specs.declared.endianness.Endianness.{Endianness}
use Rattle.speedy_base.specs.declared.endianness.Endianness.TheVariants.{LittleEndian, BigEndian}
use Rattle.speedy_base.specs.Digits.{little_number, number, little_digits, digits, swapped}
use Rattle.speedy_base.specs.DigitsLemmas.{sum_first, sum_same, reverse-cons, little_number-append, byte_len-above}
use Rattle.speedy_base.specs.DigitsLemmas.{to_le_bytes-little_digits, length-little_digits}

worth_is : (i b : ℕ) → byte_worth i b ≡ b * 256 ^ i
worth_is zero b = omega arith
worth_is (suc i) b = refl

little_number-reverse_cons : (b : ℕ) (bs : List ℕ)
    → little_number (reverse (b ∷ bs)) ≡ b * 256 ^ length bs + little_number (reverse bs)
little_number-reverse_cons b bs =
    rw (reverse-cons b bs, little_number-append (reverse bs) (b ∷ []), length-reverse bs) (omega arith)

from_high_first : (k : ℕ) (bytes : List ℕ) → length bytes ≡ suc k
    → sum_through (λ i. byte_worth (k - i) (slice_index bytes i)) k ≡ little_number (reverse bytes)
from_high_first zero [] e = absurd (omega arith)
from_high_first zero (b ∷ []) e = omega arith
from_high_first zero (b ∷ c ∷ bs) e = absurd (omega arith)
from_high_first (suc k) [] e = absurd (omega arith)
from_high_first (suc k) (b ∷ bs) e =
    let top : suc k - 0 ≡ length bs = omega arith in
    sum_first (λ i. byte_worth (suc k - i) (slice_index (b ∷ bs) i)) k
    ∙ ap₂ ◌+◌ (worth_is (suc k - 0) b ∙ ap (λ (n : ℕ). b * 256 ^ n) top)
    (sum_same (λ i. byte_worth (suc k - suc i) (slice_index bs i)) (λ i. byte_worth (k - i) (slice_index bs i)) k
    (λ i l. let less : suc k - suc i ≡ k - i = omega arith in ap (λ (n : ℕ). byte_worth n (slice_index bs i)) less)
    ∙ from_high_first k bs (omega arith))
    ∙ sym (little_number-reverse_cons b bs)

pub little_number-from_be_bytes : (w : Width) (bytes : List ℕ) → length bytes ≡ byte_len w
    → from_be_bytes w bytes ≡ little_number (reverse bytes)
little_number-from_be_bytes w bytes e = from_high_first (byte_len w - 1) bytes (e ∙ byte_len-above w)

pub swapped-swap_bytes : (w : Width) (order : Endianness) (n : ℕ) → order ≡ BigEndian
    → swap_bytes w n ≡ swapped order (byte_len w) n
unfolding swapped digits number
swapped-swap_bytes w order n is =
    ap (from_be_bytes w) (to_le_bytes-little_digits w n)
    ∙ little_number-from_be_bytes w (little_digits (byte_len w) n) (length-little_digits (byte_len w) n)
    ∙ sym (ap (λ (o : Endianness). swapped o (byte_len w) n) is)

-- an order that is not the one is the other
pub little_from_not_big : (order : Endianness) (is_big : Bool) → (IsTrue is_big ↔ (order ≡ BigEndian)) → is_big ≡ false
    → order ≡ LittleEndian
little_from_not_big LittleEndian is_big h e = refl
little_from_not_big BigEndian is_big h e = absurd (true≢false (sym (h.1 refl) ∙ e))
