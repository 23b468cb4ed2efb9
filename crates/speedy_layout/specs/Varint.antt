-- Variable length integers: numbers below 2 ^ 64 in one to nine bytes, the same in both byte orders.
use Rattle.std.specs.Prelude.{◌≡◌, ℕ, zero, suc, ◌+◌, ◌-◌, ◌*◌, ◌/◌, ◌%◌, ◌^◌, ◌<◌, ◌≤◌, List, [], ◌∷◌, ◌++◌, length}
use Rattle.std.specs.Prelude.{refl, IsTrue, false}
use Rattle.std.proofs.Common.{sym, ◌∙◌, ap, ap₂, subst, inl, inr, lit<, arith}
use Rattle.std.proofs.Math.Nat.{pow-suc, one-le-pow}
use Rattle.std.proofs.Math.Pow.{pow_mono}
use Rattle.std.proofs.lemmas.Bool.{cases_lt}
use Rattle.std.proofs.lemmas.Nat.{div_below, mod_below, mul-le, div-add-mod', pow-add, same_from_place}
use Rattle.speedy_base.specs.declared.endianness.Endianness.TheVariants.{LittleEndian}
use Rattle.speedy_base.specs.Digits.{EncodesNumber, digits}
use Rattle.speedy_base.specs.DigitsLemmas.{EncodesNumber-below, EncodesNumber-digits, EncodesNumber-one_byte}
use Rattle.speedy_base.specs.DigitsLemmas.{EncodesNumber-is_one_byte}
use Rattle.speedy_base.specs.Mode.{Mode}
use Rattle.speedy_layout.specs.Format.{asks_nothing, Format, Parts-joined}
use Rattle.speedy_layout.specs.Laws.{Laws, Codec, Laws-less, SameWritten}
use Rattle.speedy_layout.specs.Codes.{Codebook, IsCode, coding, coding_codec, exact_code, exact_is_code}
use Rattle.speedy_layout.specs.Codes.{Accepts-exact_means, Accepts-is, Accepts-means}
use Rattle.speedy_layout.specs.Numbers.{unsigned_number, unsigned_number_laws, unsigned_written, unsigned_codec}
use Rattle.speedy_layout.specs.Numbers.{WritesSmaller}
use Rattle.speedy_layout.specs.Sequences.{AsksAtMost, asks_same, sequence, sequence_laws, sequence_written}

-- a first byte: n leading one bits, and a low part below the first zero bit, which is 0 where no bit is left for
-- it
pub record IsFirstByte (ones low byte : ℕ) : Type 0 where
  pub at_most_eight : ones ≤ 8
  pub low_is_below : low < 2 ^ (7 - ones)
  pub byte_is : byte ≡ (256 - 2 ^ (8 - ones)) + low

-- a byte stands for the number of its leading ones and its low part
abbrev pub first_byte_code : Codebook ℕ (ℕ × ℕ)
first_byte_code = exact_code (λ byte p. IsFirstByte p.0 p.1 byte) (λ kind. ⊥)

-- the same with digits least first
abbrev pub low_first : Mode → Mode
low_first mode = record mode { order = LittleEndian }

-- no fewer bytes after the first one hold the number: j of them, up to 7, hold what is below 2 ^ (7 * (j + 1))
abbrev pub HasNoShorter : ℕ → ℕ → Type 0
HasNoShorter more n = (j : ℕ) → j < more → 2 ^ (7 * (j + 1)) ≤ n

-- n bytes after the first one hold the number, and no fewer
pub record IsFewest (more n : ℕ) : Type 0 where
  pub at_most_eight : more ≤ 8
  pub enough : n < 2 ^ (7 - more) * 256 ^ more
  pub no_shorter : HasNoShorter more n

-- the low part stands above the digits; of the codes that mean a number, that with the fewest bytes is written
abbrev pub varint_code : Codebook ((ℕ × ℕ) × ℕ) ℕ
varint_code = record {
  means = λ p n. n ≡ p.0.1 * 256 ^ p.0.0 + p.1;
  chosen = λ p n. IsFewest p.0.0 n × (p.0.1 ≡ n / 256 ^ p.0.0) × (p.1 ≡ n % 256 ^ p.0.0);
  refusals = λ kind. ⊥;
}

-- a first byte, the digits after it, and the number that they hold
pub record VarintParts (first : ℕ) (tail : List ℕ) (n : ℕ) : Type 0 where
  pub low : ℕ
  pub rest : ℕ
  pub first_is : IsFirstByte (length tail) low first
  pub tail_is : EncodesNumber (length tail) LittleEndian rest tail
  pub value_is : n ≡ low * 256 ^ length tail + rest

-- a first byte after which n bytes follow
abbrev pub StartsVarint : ℕ → ℕ → Type 0
StartsVarint more first = (low : ℕ) × IsFirstByte more low first

-- ---- first bytes

-- a byte does not begin with fewer ones and with more
ones_apart : (k j a b x : ℕ) → k < j → IsFirstByte k a x → IsFirstByte j b x → ⊥
ones_apart k j a b x l h g =
    let j_small = g.at_most_eight in
    let a_small = h.low_is_below in
    let one_more : 8 - k ≡ suc (7 - k) = omega arith in
    let half : 2 ^ (8 - k) ≡ 2 ^ (7 - k) * 2 = ap (λ (i : ℕ). 2 ^ i) one_more ∙ pow-suc 2 (7 - k) in
    let above : 2 ^ (8 - j) ≤ 2 ^ (7 - k) = pow_mono {i = 8 - j} {j = 7 - k} (omega arith) in
    let within : 2 ^ (8 - k) ≤ 2 ^ 8 = pow_mono {i = 8 - k} {j = 8} (omega arith) in
    let e = h.byte_is in
    let d = g.byte_is in
    omega arith

-- a byte determines how many ones it begins with
pub IsFirstByte-same_ones : (k j a b x : ℕ) → IsFirstByte k a x → IsFirstByte j b x → k ≡ j
IsFirstByte-same_ones k j a b x h g =
    elim (cases_lt k j) [
      | inl l ↦ absurd (ones_apart k j a b x l h g)
      | inr m ↦ elim (cases_lt j k) [
        | inl l ↦ absurd (ones_apart j k b a x l g h)
        | inr l ↦ omega arith
      ]
    ]

-- and its low part
pub IsFirstByte-same_low : (k a b x : ℕ) → IsFirstByte k a x → IsFirstByte k b x → a ≡ b
IsFirstByte-same_low k a b x h g = let e = h.byte_is in let d = g.byte_is in omega arith

-- it is a byte
pub StartsVarint-byte : (k x : ℕ) → StartsVarint k x → x < 256
StartsVarint-byte k x h =
    let small = h.1.low_is_below in
    let l = h.1.at_most_eight in
    let up : 2 ^ (7 - k) ≤ 2 ^ (8 - k) = pow_mono {i = 7 - k} {j = 8 - k} (omega arith) in
    let within : 2 ^ (8 - k) ≤ 2 ^ 8 = pow_mono {i = 8 - k} {j = 8} (omega arith) in
    let e = h.1.byte_is in
    omega arith

-- ---- how much n bytes hold

-- a byte has eight bits
pub byte_power : (k : ℕ) → 2 ^ (8 * k) ≡ 256 ^ k
byte_power zero = refl
byte_power (suc k) =
    let eight_more : 8 * suc k ≡ 8 + 8 * k = omega arith in
    let split = ap (λ (i : ℕ). 2 ^ i) eight_more ∙ pow-add 2 8 (8 * k) in
    let rest = byte_power k in
    let one_more = pow-suc 256 k in
    omega arith

-- up to 7 bytes after the first one hold what is below this power
pub capacity : (k : ℕ) → k ≤ 7 → 2 ^ (7 - k) * 256 ^ k ≡ 2 ^ (7 * (k + 1))
capacity k l =
    let bits : (7 - k) + 8 * k ≡ 7 * (k + 1) = omega arith in
    ap (λ (i : ℕ). 2 ^ (7 - k) * i) (sym (byte_power k))
    ∙ (sym (pow-add 2 (7 - k) (8 * k)) ∙ ap (λ (i : ℕ). 2 ^ i) bits)

-- and 8 hold what is below 2 ^ 64
pub capacity-below_64 : (k n : ℕ) → k ≤ 8 → n < 2 ^ (7 - k) * 256 ^ k → n < 2 ^ 64
capacity-below_64 k n l below =
    elim (cases_lt k 8) [
      | inl less ↦ (
          let bound = capacity k (omega arith) in
          let up : 2 ^ (7 * (k + 1)) ≤ 2 ^ 64 = pow_mono {i = 7 * (k + 1)} {j = 64} (omega arith) in
          omega arith)
      | inr more ↦ (
          let same : k ≡ 8 = omega arith in
          subst (λ (i : ℕ). n < 2 ^ (7 - i) * 256 ^ i) same below)
    ]

-- ---- the fewest bytes that hold a number

pow_above : (k : ℕ) → 0 < 256 ^ k
pow_above k = one-le-pow k 256 (lit< tt)

one_more : (k n : ℕ) → HasNoShorter k n → 2 ^ (7 * (k + 1)) ≤ n → HasNoShorter (k + 1) n
one_more k n h m j l = elim (cases_lt j k) [
  | inl below ↦ h j below
  | inr above ↦ (let same : k ≡ j = omega arith in subst (λ (i : ℕ). 2 ^ (7 * (i + 1)) ≤ n) same m)
]

-- looked for from below
fewest_from : (left k n : ℕ) → left + k ≡ 8 → HasNoShorter k n → n < 2 ^ 64 → (more : ℕ) × IsFewest more n
fewest_from zero k n e no_shorter small =
    let eight : 8 ≡ k = omega arith in (
      k,
      record {
        at_most_eight = omega arith;
        enough = subst (λ (i : ℕ). n < 2 ^ (7 - i) * 256 ^ i) eight small;
        no_shorter = no_shorter;
      },
    )
fewest_from (suc left) k n e no_shorter small =
    let bound = capacity k (omega arith) in
    elim (cases_lt n (2 ^ (7 * (k + 1)))) [
      | inl l ↦ (k, record { at_most_eight = omega arith; enough = omega arith; no_shorter = no_shorter })
      | inr m ↦ fewest_from left (k + 1) n (omega arith) (one_more k n no_shorter m) small
    ]

-- no fewer bytes hold the number
IsFewest-least : (k j n : ℕ) → IsFewest k n → n < 2 ^ (7 - j) * 256 ^ j → k ≤ j
IsFewest-least k j n h below =
    elim (cases_lt j k) [
      | inl l ↦ absurd (
          let eight = h.at_most_eight in
          let bound = capacity j (omega arith) in
          let above = h.no_shorter j l in
          omega arith)
      | inr m ↦ m
    ]

-- one number of bytes is the fewest
pub IsFewest-same : (k j n : ℕ) → IsFewest k n → IsFewest j n → k ≡ j
IsFewest-same k j n h g =
    let up = IsFewest-least k j n h g.enough in
    let down = IsFewest-least j k n g h.enough in
    omega arith

-- ---- codes and their encodings

one_first_byte : (byte : ℕ) (p q : ℕ × ℕ) → IsFirstByte p.0 p.1 byte → IsFirstByte q.0 q.1 byte → p ≡ q
one_first_byte byte p q h g =
    let ones : q.0 ≡ p.0 = IsFirstByte-same_ones q.0 p.0 q.1 p.1 byte g h in
    let lows : p.1 ≡ q.1 = IsFirstByte-same_low p.0 p.1 q.1 byte h (subst (λ (k : ℕ). IsFirstByte k q.1 byte) ones g) in
    ap₂ (λ (a b : ℕ). let r : ℕ × ℕ = (a, b) in r) (sym ones) lows

pub first_byte_is_code : {F : Format ℕ} → IsCode first_byte_code F
first_byte_is_code =
    exact_is_code (λ kind h. absurd h) one_first_byte (λ a b p h k. h.byte_is ∙ sym k.byte_is)

abbrev pub first_byte : Codec (ℕ × ℕ)
first_byte = coding_codec first_byte_code (unsigned_codec 1) (λ _. first_byte_is_code)

pub prefixed_asks : (mode : Mode) (p : ℕ × ℕ)
    → AsksAtMost (unsigned_number p.0 (low_first mode)).asks asks_nothing
unfolding unsigned_number
prefixed_asks mode p = asks_same

-- a first byte, and after it as many digits as it has leading ones, least first
abbrev pub prefixed_digits : Codec ((ℕ × ℕ) × ℕ)
prefixed_digits = record {
  least = 1;
  format = λ f. sequence (λ p. p) (first_byte.format f) asks_nothing (λ p. unsigned_number p.0 (low_first f));
  laws = λ f. sequence_laws {n = 1} {m = 0} (first_byte.laws f)
      (λ p. Laws-less (omega arith) (unsigned_number_laws p.0 (low_first f))) (prefixed_asks f) (λ v w e. e);
  same_written = λ f strict. sequence_written (λ p. p) _ _ (first_byte.same_written f strict)
      (λ p. unsigned_written p.0 (low_first f) strict);
}

-- numbers of a variable length
unfoldable pub varint : Mode → Format ℕ
varint mode = coding mode varint_code (prefixed_digits.format mode)

-- no part of it is hashed
prefixed_unhashed : (mode : Mode) → (prefixed_digits.format mode).asks.hashed ≡ false
unfolding sequence coding unsigned_number
prefixed_unhashed mode = refl

-- a first byte and its digits, as they are written
pub prefixed_written : (mode : Mode) (k low rest first : ℕ) (tail : List ℕ) → IsFirstByte k low first
    → EncodesNumber k LittleEndian rest tail → (prefixed_digits.format mode).writes ((k, low), rest) (first ∷ tail)
unfolding sequence coding unsigned_number
prefixed_written mode k low rest first tail h digits =
    let is_byte = StartsVarint-byte k first (low, h) in
    Parts-joined (first ∷ []) tail
    (record { code = first; code_is = EncodesNumber-one_byte mode.order first is_byte; stands = h }) digits

-- and as they are read
pub prefixed-encoded : (mode : Mode) (k low rest first : ℕ) (tail : List ℕ) → IsFirstByte k low first
    → EncodesNumber k LittleEndian rest tail → (prefixed_digits.format mode).encodes ((k, low), rest) (first ∷ tail)
prefixed-encoded mode k low rest first tail h digits =
    (prefixed_digits.laws mode).written_encodes ((k, low), rest) (first ∷ tail)
    (prefixed_written mode k low rest first tail h digits)

-- what an encoding says of its code
pub record IsPrefixed (p : (ℕ × ℕ) × ℕ) (bytes : List ℕ) : Type 0 where
  pub first : ℕ
  pub tail : List ℕ
  pub whole_is : bytes ≡ first ∷ tail
  pub width_is : length tail ≡ p.0.0
  pub first_is : IsFirstByte p.0.0 p.0.1 first
  pub holds : p.0.1 * 256 ^ p.0.0 + p.1 < 2 ^ (7 - p.0.0) * 256 ^ p.0.0

pub prefixed-is : (mode : Mode) (p : (ℕ × ℕ) × ℕ) (bytes : List ℕ)
    → (prefixed_digits.format mode).encodes p bytes → IsPrefixed p bytes
unfolding sequence coding unsigned_number
prefixed-is mode p bytes h =
    let first = h.first_is in
    let is = Accepts-exact_means mode.strict (λ (byte : ℕ) (p : ℕ × ℕ). IsFirstByte p.0 p.1 byte) (λ kind. ⊥)
    first.code p.0 first.stands in
    let small = EncodesNumber-below p.0.0 LittleEndian p.1 h.suffix h.second_is in
    let low = is.low_is_below in
    let lows : (p.0.1 + 1) * 256 ^ p.0.0 ≤ 2 ^ (7 - p.0.0) * 256 ^ p.0.0 =
    mul-le (p.0.1 + 1) (256 ^ p.0.0) (2 ^ (7 - p.0.0)) (256 ^ p.0.0) (omega arith) (omega arith) in
    record {
      first = first.code;
      tail = h.suffix;
      whole_is =
          h.whole_is ∙ ap (λ x. x ++ h.suffix) (EncodesNumber-is_one_byte mode.order first.code h.prefix first.code_is);
      width_is = h.second_is.width_is;
      first_is = is;
      holds = omega arith;
    }

-- ---- the laws

-- the code of n bytes
abbrev code_of : ℕ → ℕ → (ℕ × ℕ) × ℕ
code_of n k = ((k, n / 256 ^ k), n % 256 ^ k)

chosen_is : (p : (ℕ × ℕ) × ℕ) (n : ℕ) → varint_code.chosen p n → p ≡ code_of n p.0.0
chosen_is p n h = ap₂ (λ (a b : ℕ). let r : (ℕ × ℕ) × ℕ = ((p.0.0, a), b) in r) h.1 h.2

pub varint_is_code : (mode : Mode) → IsCode varint_code (prefixed_digits.format mode)
varint_is_code mode = record {
  one_meaning = λ p n m h k. h ∙ sym k;
  one_chosen = λ _ p q n h k.
      let same = IsFewest-same p.0.0 q.0.0 n h.0 k.0 in
      chosen_is p n h ∙ (ap (code_of n) same ∙ sym (chosen_is q n k));
  tells = λ e. absurd (let u = prefixed_unhashed mode in (cc));
  chosen_means = λ p n h. sym (ap₂ (λ (a b : ℕ). a * 256 ^ p.0.0 + b) h.1 h.2 ∙ div-add-mod' n (256 ^ p.0.0));
  has_chosen = λ n bytes h.
      let is = prefixed-is mode h.code bytes h.code_is in
      let below : n < 2 ^ (7 - h.code.0.0) * 256 ^ h.code.0.0 = let e = h.stands in let l = is.holds in omega arith in
      let f = fewest_from 8 0 n refl (λ j l. absurd (omega arith))
      (capacity-below_64 h.code.0.0 n is.first_is.at_most_eight below) in
      let k = f.0 in
      let low = div_below n (256 ^ k) (2 ^ (7 - k)) (pow_above k) f.1.enough in
      let first = (256 - 2 ^ (8 - k)) + n / 256 ^ k in
      let tail = digits LittleEndian k (n % 256 ^ k) in (
        first ∷ tail,
        record {
          code = code_of n k;
          code_is = prefixed-encoded mode k (n / 256 ^ k) (n % 256 ^ k) first tail (record {
            at_most_eight = f.1.at_most_eight;
            low_is_below = low;
            byte_is = refl;
          })
              (EncodesNumber-digits k LittleEndian (n % 256 ^ k) (mod_below n (256 ^ k) (pow_above k)));
          stands = (f.1, refl, refl);
        },
      );
  chosen_shortest = λ _ n b d h k.
      let own = prefixed-is mode h.code b ((prefixed_digits.laws mode).written_encodes h.code b h.code_is) in
      let other = prefixed-is mode k.code d k.code_is in
      let below : n < 2 ^ (7 - k.code.0.0) * 256 ^ k.code.0.0 =
      let e = k.stands in
      let l = other.holds in
      omega arith in
      let fewest = IsFewest-least h.code.0.0 k.code.0.0 n h.stands.0 below in
      let l : length b ≡ suc (length own.tail) = ap length own.whole_is in
      let m : length d ≡ suc (length other.tail) = ap length other.whole_is in
      let w = own.width_is in
      let v = other.width_is in
      omega arith;
  refusals_own = λ kind h. absurd h;
}

pub varint_laws : (mode : Mode) → Laws mode.strict 1 (varint mode)
unfolding varint
varint_laws = (coding_codec varint_code prefixed_digits varint_is_code).laws

pub varint_written : SameWritten varint
unfolding varint
varint_written = (coding_codec varint_code prefixed_digits varint_is_code).same_written

abbrev pub varint_codec : Codec ℕ
varint_codec = record { least = 1; format = varint; laws = varint_laws; same_written = varint_written }

pub varint_smaller : (mode : Mode) → WritesSmaller (varint mode)
unfolding varint coding
varint_smaller mode n m s l h =
    let other = prefixed-is mode h.code s h.code_is in
    let j = h.code.0.0 in
    let is = Accepts-means mode.strict varint_code h.code m ((varint_is_code mode).chosen_means h.code m)
    h.stands in
    let below : n < 2 ^ (7 - j) * 256 ^ j = let held = other.holds in omega arith in
    let f = fewest_from 8 0 n refl (λ j l. absurd (omega arith))
    (capacity-below_64 j n other.first_is.at_most_eight below) in
    let k = f.0 in
    let low = div_below n (256 ^ k) (2 ^ (7 - k)) (pow_above k) f.1.enough in
    let first = (256 - 2 ^ (8 - k)) + n / 256 ^ k in
    let tail = digits LittleEndian k (n % 256 ^ k) in
    let after = EncodesNumber-digits k LittleEndian (n % 256 ^ k) (mod_below n (256 ^ k) (pow_above k)) in
    let starts : IsFirstByte k (n / 256 ^ k) first =
    record { at_most_eight = f.1.at_most_eight; low_is_below = low; byte_is = refl } in
    let fewer = IsFewest-least k j n f.1 below in
    let b = after.width_is in
    let c : length s ≡ suc (length other.tail) = ap length other.whole_is in
    let d = other.width_is in (
      first ∷ tail,
      record {
        code = code_of n k;
        code_is = prefixed_written mode k (n / 256 ^ k) (n % 256 ^ k) first tail starts after;
        stands = (f.1, refl, refl);
      },
      omega arith,
    )

-- ---- for readers

-- a first byte determines how many bytes follow
pub StartsVarint-same : (k j x : ℕ) → StartsVarint k x → StartsVarint j x → k ≡ j
StartsVarint-same k j x h g = IsFirstByte-same_ones k j h.0 g.0 x h.1 g.1

-- an encoding is a first byte and what it says follows
pub varint-starts : (mode : Mode) (n : ℕ) (bytes : List ℕ) → (varint mode).encodes n bytes
    → (first : ℕ) × (tail : List ℕ) × (bytes ≡ first ∷ tail) × StartsVarint (length tail) first
unfolding varint coding
varint-starts mode n bytes h =
    let is = prefixed-is mode h.code bytes h.code_is in (
      is.first,
      is.tail,
      is.whole_is,
      (h.code.0.1, subst (λ (i : ℕ). IsFirstByte i h.code.0.1 is.first) (sym is.width_is) is.first_is),
    )

-- a first byte and its digits are the code that is chosen for the number that they hold, where they are the fewest
pub varint-chosen : {first : ℕ} {tail : List ℕ} (n : ℕ) → (parts : VarintParts first tail n) → IsFewest (length tail) n
    → varint_code.chosen ((length tail, parts.low), parts.rest) n
varint-chosen {tail = tail} n parts fewest =
    let power = 256 ^ length tail in
    let small = EncodesNumber-below (length tail) LittleEndian parts.rest tail parts.tail_is in
    let same = same_from_place parts.low parts.rest (n / power) (n % power) power small
    (mod_below n power (pow_above (length tail))) (sym parts.value_is ∙ sym (div-add-mod' n power)) in
    (fewest, same.0, same.1)

-- so they are an encoding of it, under a demand for the canonical encoding too
pub varint-accepted : (mode : Mode) (n first : ℕ) (tail : List ℕ) → VarintParts first tail n
    → (IsTrue mode.strict → IsFewest (length tail) n) → (varint mode).encodes n (first ∷ tail)
unfolding varint coding
varint-accepted mode n first tail parts fewest = record {
  code = ((length tail, parts.low), parts.rest);
  code_is = prefixed-encoded mode (length tail) parts.low parts.rest first tail parts.first_is parts.tail_is;
  stands = Accepts-is mode.strict varint_code ((length tail, parts.low), parts.rest) n parts.value_is
      (λ strict. varint-chosen n parts (fewest strict));
}
