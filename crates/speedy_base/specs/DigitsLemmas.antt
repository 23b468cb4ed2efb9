-- What holds of base 256 digits, at each width and in both orders.
-- Std's conversions between numbers and bytes are these digits.
use Rattle.std.proofs.Common.{◌≡◌, ℕ, zero, suc, ◌+◌, ◌-◌, ◌*◌, ◌/◌, ◌%◌, ◌^◌, ◌<◌, ◌≤◌, List, [], ◌∷◌, ◌++◌, length}
use Rattle.std.proofs.Common.{reverse, get_or, slice_index, refl, sym, ap, ap₂, ◌∙◌, subst, subst₂, arith}
use Rattle.std.proofs.Math.Nat.{pow-suc, div-div-eq-div-mul, div-one}
use Rattle.std.proofs.lemmas.List.{length-append, reverse-append, reverse-reverse, length-reverse}
use mir.Val.{bits, Fits}
use Rattle.std.specs.Int.{Width, w8, w16, w32, w64, w128, byte_len, byte_at, byte_worth, bytes_low_first, sum_through}
use Rattle.std.specs.Int.{from_le_bytes, to_le_bytes}
use Rattle.speedy_base.specs.declared.endianness.Endianness.{Endianness}
use Rattle.speedy_base.specs.declared.endianness.Endianness.TheVariants.{LittleEndian, BigEndian}
use Rattle.speedy_base.specs.Digits.{little_number, number, little_digits, digits, AreBytes, EncodesNumber, swapped}
use Rattle.speedy_base.specs.Digits.{turned_in, width_of}

-- ---- sums

-- a sum is its first term and the rest
pub sum_first : (f : ℕ → ℕ) (k : ℕ) → sum_through f (suc k) ≡ f 0 + sum_through (λ i. f (suc i)) k
sum_first f zero = refl
sum_first f (suc k) = omega (arith, sum_first f k)

pub sum_same : (f g : ℕ → ℕ) (k : ℕ) → ((i : ℕ) → i ≤ k → f i ≡ g i) → sum_through f k ≡ sum_through g k
sum_same f g zero h = h 0 (omega arith)
sum_same f g (suc k) h = ap₂ ◌+◌ (sum_same f g k (λ i l. h i (omega arith))) (h (suc k) (omega arith))

sum_times : (f : ℕ → ℕ) (c k : ℕ) → sum_through (λ i. c * f i) k ≡ c * sum_through f k
sum_times f c zero = refl
sum_times f c (suc k) = omega (arith, sum_times f c k)

-- ---- the worth of a byte

worth_more : (i b : ℕ) → byte_worth (suc i) b ≡ 256 * byte_worth i b
worth_more zero b = omega arith
worth_more (suc i) b = rw (pow-suc 256 (suc i)) (omega arith)

-- ---- numbers of digits

pub reverse-cons : (b : ℕ) (bs : List ℕ) → reverse (b ∷ bs) ≡ reverse bs ++ b ∷ []
reverse-cons b bs = reverse-append (b ∷ []) bs

-- the digits of two lists, one above the other
pub little_number-append : (xs ys : List ℕ)
    → little_number (xs ++ ys) ≡ little_number xs + 256 ^ length xs * little_number ys
little_number-append [] ys = omega arith
little_number-append (x ∷ xs) ys = rw (pow-suc 256 (length xs), little_number-append xs ys) (omega arith)

-- ---- std's numbers from bytes

from_low_first : (k : ℕ) (bytes : List ℕ) → length bytes ≡ suc k
    → sum_through (λ i. byte_worth i (slice_index bytes i)) k ≡ little_number bytes
from_low_first zero [] e = absurd (omega arith)
from_low_first zero (b ∷ []) e = omega arith
from_low_first zero (b ∷ c ∷ bs) e = absurd (omega arith)
from_low_first (suc k) [] e = absurd (omega arith)
from_low_first (suc k) (b ∷ bs) e =
    sum_first (λ i. byte_worth i (slice_index (b ∷ bs) i)) k
    ∙ ap (λ (n : ℕ). b + n)
    (sum_same (λ i. byte_worth (suc i) (slice_index bs i)) (λ i. 256 * byte_worth i (slice_index bs i)) k
    (λ i l. worth_more i (slice_index bs i))
    ∙ sum_times (λ i. byte_worth i (slice_index bs i)) 256 k
    ∙ ap (λ (n : ℕ). 256 * n) (from_low_first k bs (omega arith)))

-- each width has a byte
pub byte_len-above : (w : Width) → byte_len w ≡ suc (byte_len w - 1)
byte_len-above w8 = refl
byte_len-above w16 = refl
byte_len-above w32 = refl
byte_len-above w64 = refl
byte_len-above w128 = refl

pub little_number-from_le_bytes : (w : Width) (bytes : List ℕ) → length bytes ≡ byte_len w
    → from_le_bytes w bytes ≡ little_number bytes
little_number-from_le_bytes w bytes e = from_low_first (byte_len w - 1) bytes (e ∙ byte_len-above w)

-- ---- std's bytes of numbers

pub byte_at-is : (i n : ℕ) → byte_at i n ≡ n / 256 ^ i % 256
byte_at-is zero n = ap (λ (m : ℕ). m % 256) (sym (div-one n))
byte_at-is (suc i) n = refl

div-pow-suc : (i n : ℕ) → n / 256 ^ i / 256 ≡ n / 256 ^ suc i
div-pow-suc i n = div-div-eq-div-mul n (256 ^ i) 256 ∙ ap (λ (m : ℕ). n / m) (sym (pow-suc 256 i))

low_first_is : (i k n : ℕ) → bytes_low_first i k n ≡ little_digits k (n / 256 ^ i)
low_first_is i zero n = refl
low_first_is i (suc k) n =
    ap₂ ◌∷◌ (byte_at-is i n) (low_first_is (suc i) k n ∙ ap (little_digits k) (sym (div-pow-suc i n)))

pub to_le_bytes-little_digits : (w : Width) (n : ℕ) → to_le_bytes w n ≡ little_digits (byte_len w) n
to_le_bytes-little_digits w n = low_first_is 0 (byte_len w) n ∙ ap (little_digits (byte_len w)) (div-one n)

-- ---- bytes

pub AreBytes-each : (bytes : List ℕ) → ((i : ℕ) → get_or bytes i 0 < 256) → AreBytes bytes
AreBytes-each [] h = tt
AreBytes-each (b ∷ bs) h = (h 0, AreBytes-each bs (λ i. h (suc i)))

-- from what the type of a slice of bytes says of its items
pub AreBytes-slice : (bytes : List ℕ) → ((i : ℕ) → Fits w8 (get_or bytes i 0)) → AreBytes bytes
AreBytes-slice bytes h = AreBytes-each bytes (λ i. omega (arith, h i))

pub AreBytes-append : (xs ys : List ℕ) → AreBytes xs → AreBytes ys → AreBytes (xs ++ ys)
AreBytes-append [] ys g h = h
AreBytes-append (x ∷ xs) ys g h = (g.0, AreBytes-append xs ys g.1 h)

pub AreBytes-append_parts : (xs ys : List ℕ) → AreBytes (xs ++ ys) → AreBytes xs × AreBytes ys
AreBytes-append_parts [] ys h = (tt, h)
AreBytes-append_parts (x ∷ xs) ys h = let rest = AreBytes-append_parts xs ys h.1 in ((h.0, rest.0), rest.1)

pub AreBytes-reverse : (bytes : List ℕ) → AreBytes bytes → AreBytes (reverse bytes)
AreBytes-reverse [] h = tt
AreBytes-reverse (b ∷ bs) h =
    subst AreBytes (sym (reverse-cons b bs)) (AreBytes-append (reverse bs) (b ∷ []) (AreBytes-reverse bs h.1) (h.0, tt))

-- ---- digits, least first

pub length-little_digits : (width n : ℕ) → length (little_digits width n) ≡ width
length-little_digits zero n = refl
length-little_digits (suc width) n = ap suc (length-little_digits width (n / 256))

pub AreBytes-little_digits : (width n : ℕ) → AreBytes (little_digits width n)
AreBytes-little_digits zero n = tt
AreBytes-little_digits (suc width) n = (omega arith, AreBytes-little_digits width (n / 256))

pub little_number-below : (bytes : List ℕ) → AreBytes bytes → little_number bytes < 256 ^ length bytes
little_number-below [] h = omega arith
little_number-below (b ∷ bs) h =
    let rest : little_number bs < 256 ^ length bs = little_number-below bs h.1 in
    omega (arith, pow-suc 256 (length bs), h.0)

pub little_digits-little_number : (bytes : List ℕ) → AreBytes bytes
    → little_digits (length bytes) (little_number bytes) ≡ bytes
little_digits-little_number [] h = refl
little_digits-little_number (b ∷ bs) h =
    let first : (b + 256 * little_number bs) % 256 ≡ b = omega (arith, h.0) in
    let rest : (b + 256 * little_number bs) / 256 ≡ little_number bs = omega (arith, h.0) in
    ap₂ ◌∷◌ first (ap (little_digits (length bs)) rest ∙ little_digits-little_number bs h.1)

pub little_number-little_digits : (width n : ℕ) → n < 256 ^ width → little_number (little_digits width n) ≡ n
little_number-little_digits zero n l = omega arith
little_number-little_digits (suc width) n l =
    let less : n / 256 < 256 ^ width = omega (arith, pow-suc 256 width) in
    let rest : little_number (little_digits width (n / 256)) ≡ n / 256 =
    little_number-little_digits width (n / 256) less in
    omega arith

-- ---- digits in either order

pub length-digits : (order : Endianness) (width n : ℕ) → length (digits order width n) ≡ width
unfolding digits
length-digits LittleEndian width n = length-little_digits width n
length-digits BigEndian width n = length-reverse (little_digits width n) ∙ length-little_digits width n

pub AreBytes-digits : (order : Endianness) (width n : ℕ) → AreBytes (digits order width n)
unfolding digits
AreBytes-digits LittleEndian width n = AreBytes-little_digits width n
AreBytes-digits BigEndian width n = AreBytes-reverse (little_digits width n) (AreBytes-little_digits width n)

pub number-digits : (order : Endianness) (width n : ℕ) → n < 256 ^ width → number order (digits order width n) ≡ n
unfolding digits number
number-digits LittleEndian width n l = little_number-little_digits width n l
number-digits BigEndian width n l =
    ap little_number (reverse-reverse (little_digits width n)) ∙ little_number-little_digits width n l

pub digits-number : (order : Endianness) (bytes : List ℕ) → AreBytes bytes
    → digits order (length bytes) (number order bytes) ≡ bytes
unfolding digits number
digits-number LittleEndian bytes h = little_digits-little_number bytes h
digits-number BigEndian bytes h =
    ap reverse
    (ap (λ (width : ℕ). little_digits width (little_number (reverse bytes))) (sym (length-reverse bytes))
    ∙ little_digits-little_number (reverse bytes) (AreBytes-reverse bytes h))
    ∙ reverse-reverse bytes

pub number-below : (order : Endianness) (bytes : List ℕ) → AreBytes bytes → number order bytes < 256 ^ length bytes
unfolding number
number-below LittleEndian bytes h = little_number-below bytes h
number-below BigEndian bytes h = subst (λ (width : ℕ). little_number (reverse bytes) < 256 ^ width)
    (length-reverse bytes) (little_number-below (reverse bytes) (AreBytes-reverse bytes h))

-- ---- encodings

-- each number that is small enough has an encoding
pub EncodesNumber-digits : (width : ℕ) (order : Endianness) (n : ℕ) → n < 256 ^ width
    → EncodesNumber width order n (digits order width n)
EncodesNumber-digits width order n l = record {
  width_is = length-digits order width n;
  are_bytes = AreBytes-digits order width n;
  value_is = number-digits order width n l;
}

-- and no other
pub EncodesNumber-unique : (width : ℕ) (order : Endianness) (n : ℕ) (bytes : List ℕ) → EncodesNumber width order n bytes
    → bytes ≡ digits order width n
EncodesNumber-unique width order n bytes s =
    sym (digits-number order bytes s.are_bytes) ∙ ap₂ (digits order) s.width_is s.value_is

-- the same bytes encode one number
pub EncodesNumber-same_value : (width : ℕ) (order : Endianness) (m n : ℕ) (bytes : List ℕ)
    → EncodesNumber width order m bytes
    → EncodesNumber width order n bytes → m ≡ n
EncodesNumber-same_value width order m n bytes s t = sym s.value_is ∙ t.value_is

-- the same number has one encoding
pub EncodesNumber-same_bytes : (width : ℕ) (order : Endianness) (n : ℕ) (xs ys : List ℕ)
    → EncodesNumber width order n xs
    → EncodesNumber width order n ys → xs ≡ ys
EncodesNumber-same_bytes width order n xs ys s t =
    EncodesNumber-unique width order n xs s ∙ sym (EncodesNumber-unique width order n ys t)

pub EncodesNumber-below : (width : ℕ) (order : Endianness) (n : ℕ) (bytes : List ℕ) → EncodesNumber width order n bytes
    → n < 256 ^ width
EncodesNumber-below width order n bytes s =
    subst₂ (λ (m w : ℕ). m < 256 ^ w) s.value_is s.width_is (number-below order bytes s.are_bytes)

-- ---- encodings by std's conversions

-- n items of a list from index i onward
abbrev pub listed : List ℕ → ℕ → ℕ → List ℕ
listed bytes i zero = []
listed bytes i (suc k) = get_or bytes i 0 ∷ listed bytes (suc i) k

listed-later : (b : ℕ) (bs : List ℕ) (i k : ℕ) → listed (b ∷ bs) (suc i) k ≡ listed bs i k
listed-later b bs i zero = refl
listed-later b bs i (suc k) = ap (◌∷◌ (get_or bs i 0)) (listed-later b bs (suc i) k)

pub listed-all : (bytes : List ℕ) (k : ℕ) → length bytes ≡ k → listed bytes 0 k ≡ bytes
listed-all [] zero e = refl
listed-all [] (suc k) e = absurd (omega arith)
listed-all (b ∷ bs) zero e = absurd (omega arith)
listed-all (b ∷ bs) (suc k) e = ap (◌∷◌ b) (listed-later b bs 0 k ∙ listed-all bs k (omega arith))

-- what the bytes of a width can hold
pub pow-byte_len : (w : Width) → 2 ^ bits w ≡ 256 ^ byte_len w
pow-byte_len w8 = refl
pow-byte_len w16 = refl
pow-byte_len w32 = refl
pow-byte_len w64 = refl
pow-byte_len w128 = refl

-- a number of the type, written
pub EncodesNumber-to_le_bytes : (w : Width) (order : Endianness) (n : ℕ) (bytes : List ℕ) → order ≡ LittleEndian
    → n < 2 ^ bits w
    → bytes ≡ to_le_bytes w n → EncodesNumber (byte_len w) order n bytes
unfolding digits
EncodesNumber-to_le_bytes w order n bytes is l e =
    subst₂ (λ (o : Endianness) (bs : List ℕ). EncodesNumber (byte_len w) o n bs) (sym is)
    (sym (e ∙ to_le_bytes-little_digits w n))
    (EncodesNumber-digits (byte_len w) LittleEndian n (subst (λ (m : ℕ). n < m) (pow-byte_len w) l))

-- ---- one byte

-- a byte is a number of one digit
pub EncodesNumber-one_byte : (order : Endianness) (b : ℕ) → b < 256 → EncodesNumber 1 order b (b ∷ [])
unfolding number
EncodesNumber-one_byte LittleEndian b l = record { width_is = refl; are_bytes = (l, tt); value_is = omega arith }
EncodesNumber-one_byte BigEndian b l = record { width_is = refl; are_bytes = (l, tt); value_is = omega arith }

-- which has no other encoding
pub EncodesNumber-is_one_byte : (order : Endianness) (n : ℕ) (bytes : List ℕ) → EncodesNumber 1 order n bytes
    → bytes ≡ n ∷ []
unfolding number
EncodesNumber-is_one_byte order n [] h = let l = h.width_is in absurd (omega arith)
EncodesNumber-is_one_byte LittleEndian n (b ∷ []) h =
    ap (λ (x : ℕ). x ∷ []) (let e : b + 256 * 0 ≡ n = h.value_is in omega arith)
EncodesNumber-is_one_byte BigEndian n (b ∷ []) h =
    ap (λ (x : ℕ). x ∷ []) (let e : b + 256 * 0 ≡ n = h.value_is in omega arith)
EncodesNumber-is_one_byte order n (b ∷ c ∷ bytes) h = let l = h.width_is in absurd (omega arith)

-- ---- numbers that are turned for an order

-- they are swapped
pub turned-swapped : (order : Endianness) (size n : ℕ)
    → turned_in order (swapped BigEndian size) n ≡ swapped order size n
unfolding turned_in swapped
turned-swapped LittleEndian size n = refl
turned-swapped BigEndian size n = refl

-- and then written least digit first
number-swapped_digits : (order : Endianness) (size n : ℕ) → n < 256 ^ size
    → number order (little_digits size (swapped order size n)) ≡ n
unfolding digits number swapped
number-swapped_digits LittleEndian size n l = little_number-little_digits size n l
number-swapped_digits BigEndian size n l =
    let low = little_digits size n in
    let sized : length (reverse low) ≡ size = length-reverse low ∙ length-little_digits size n in
    let same : little_digits size (little_number (reverse low)) ≡ reverse low =
    ap (λ (k : ℕ). little_digits k (little_number (reverse low))) (sym sized)
    ∙ little_digits-little_number (reverse low) (AreBytes-reverse low (AreBytes-little_digits size n)) in
    ap (λ (bs : List ℕ). little_number (reverse bs)) same
    ∙ (ap little_number (reverse-reverse low) ∙ little_number-little_digits size n l)

-- what is turned and then written least digit first is written in the order (a search finds it by the first part), by
-- std too where it has the width
pub turned-writes : (order : Endianness) (size n : ℕ) → n < 256 ^ size
    → (turned_in order (swapped BigEndian size) n ≡ swapped order size n)
    × (number order (little_digits size (turned_in order (swapped BigEndian size) n)) ≡ n)
    × (byte_len (width_of size) ≡ size
    → number order (to_le_bytes (width_of size) (turned_in order (swapped BigEndian size) n)) ≡ n)
turned-writes order size n l =
    let turned = turned-swapped order size n in
    let m = turned_in order (swapped BigEndian size) n in
    let written : number order (little_digits size m) ≡ n =
    ap (λ (k : ℕ). number order (little_digits size k)) turned ∙ number-swapped_digits order size n l in
    let digits_of : byte_len (width_of size) ≡ size → to_le_bytes (width_of size) m ≡ little_digits size m =
    λ is. to_le_bytes-little_digits (width_of size) m ∙ ap (λ (k : ℕ). little_digits k m) is in
    (turned, written, λ is. ap (number order) (digits_of is) ∙ written)

-- what is written in an order rests on it
pub ruleset written = (turned-writes)

-- ---- halves

-- the digits of a number are those of its halves, the lower first under little and the higher under big
pub EncodesNumber-low_first : (half n low high : ℕ) (order : Endianness) (xs ys : List ℕ) → order ≡ LittleEndian
    → EncodesNumber half order low xs → EncodesNumber half order high ys
    → n ≡ low + 256 ^ half * high → EncodesNumber (half + half) order n (xs ++ ys)
unfolding number
EncodesNumber-low_first half n low high order xs ys is h k e =
    let a = subst (λ (o : Endianness). EncodesNumber half o low xs) is h in
    let b = subst (λ (o : Endianness). EncodesNumber half o high ys) is k in
    let value : little_number (xs ++ ys) ≡ n =
    little_number-append xs ys ∙ (ap₂ ◌+◌ a.value_is (ap₂ (λ w m. 256 ^ w * m) a.width_is b.value_is) ∙ sym e) in
    subst (λ (o : Endianness). EncodesNumber (half + half) o n (xs ++ ys)) (sym is) (record {
      width_is = length-append xs ys ∙ ap₂ ◌+◌ a.width_is b.width_is;
      are_bytes = AreBytes-append xs ys a.are_bytes b.are_bytes;
      value_is = value;
    })

pub EncodesNumber-high_first : (half n low high : ℕ) (order : Endianness) (xs ys : List ℕ) → order ≡ BigEndian
    → EncodesNumber half order high xs → EncodesNumber half order low ys
    → n ≡ low + 256 ^ half * high → EncodesNumber (half + half) order n (xs ++ ys)
unfolding number
EncodesNumber-high_first half n low high order xs ys is h k e =
    let a = subst (λ (o : Endianness). EncodesNumber half o high xs) is h in
    let b = subst (λ (o : Endianness). EncodesNumber half o low ys) is k in
    let value : little_number (reverse (xs ++ ys)) ≡ n =
    ap little_number (reverse-append xs ys) ∙ (little_number-append (reverse ys) (reverse xs)
    ∙ (ap₂ ◌+◌ b.value_is (ap₂ (λ w m. 256 ^ w * m) (length-reverse ys ∙ b.width_is) a.value_is) ∙ sym e)) in
    subst (λ (o : Endianness). EncodesNumber (half + half) o n (xs ++ ys)) (sym is) (record {
      width_is = length-append xs ys ∙ ap₂ ◌+◌ a.width_is b.width_is;
      are_bytes = AreBytes-append xs ys a.are_bytes b.are_bytes;
      value_is = value;
    })
