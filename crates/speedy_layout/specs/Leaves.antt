-- Characters, byte orders and durations.
use Rattle.std.specs.Prelude.{◌≡◌, ℕ, ◌+◌, ◌*◌, ◌/◌, ◌%◌, ◌^◌, ◌<◌, List, ◌++◌, length, refl}
use Rattle.std.specs.Char.{InScalarRange}
use Rattle.std.specs.Duration.{FitsDuration}
use Rattle.std.proofs.Common.{sym, ◌∙◌, ap, ap₂, arith}
use Rattle.std.proofs.lemmas.List.{length-append}
use Rattle.speedy_base.specs.declared.endianness.Endianness.{Endianness}
use Rattle.speedy_base.specs.declared.endianness.Endianness.TheVariants.{LittleEndian, BigEndian}
use Rattle.speedy_base.specs.declared.error.ErrorKind.TheVariants as kinds
use Rattle.speedy_base.specs.Digits.{digits}
use Rattle.speedy_base.specs.DigitsLemmas.{EncodesNumber-digits}
use Rattle.speedy_base.specs.Mode.{Mode}
use Rattle.speedy_layout.specs.Format.{Format, Parts-joined}
use Rattle.speedy_layout.specs.Laws.{Codec}
use Rattle.speedy_layout.specs.Codes.{Codebook, IsCode, ReadsWider, coding_codec, exact_code, exact_is_code, one_kind}
use Rattle.speedy_layout.specs.Codes.{subset_codec}
use Rattle.speedy_layout.specs.Encoding.{Encodes, encoded_as}
use Rattle.speedy_layout.specs.Numbers.{unsigned_number, unsigned_codec}
use Rattle.speedy_layout.specs.Sequences.{sequence}
use Rattle.speedy_layout.specs.Tuples.{pair_codec}

-- characters: four digits, whose number is at most 10FFFF and none of D800 to DFFF
abbrev pub character_codec : Codec ℕ
character_codec = subset_codec InScalarRange kinds.InvalidChar tt (unsigned_codec 4)

abbrev pub character : Mode → Format ℕ
character = character_codec.format

-- the number that stands for a byte order
abbrev pub order_number : Endianness → ℕ
order_number LittleEndian = 0
order_number BigEndian = 1

abbrev pub order_code : Codebook ℕ Endianness
order_code = exact_code (λ n order. n ≡ order_number order) (λ kind. kind ≡ kinds.InvalidEnumVariant)

one_order : (a b : Endianness) → order_number a ≡ order_number b → a ≡ b
one_order LittleEndian LittleEndian e = refl
one_order LittleEndian BigEndian e = absurd (cc)
one_order BigEndian LittleEndian e = absurd (cc)
one_order BigEndian BigEndian e = refl

pub order_is_code : (mode : Mode) → IsCode order_code (unsigned_number 1 mode)
order_is_code mode =
    exact_is_code (one_kind kinds.InvalidEnumVariant tt) (λ n v w h k. one_order v w (sym h ∙ k))
    (λ n m v h k. h ∙ sym k)

-- byte orders: one byte, which has the number of one
abbrev pub byte_order_codec : Codec Endianness
byte_order_codec = coding_codec order_code (unsigned_codec 1) order_is_code

abbrev pub byte_order : Mode → Format Endianness
byte_order = byte_order_codec.format

-- seconds in eight digits, then nanoseconds in four
abbrev pub seconds_and_nanos_codec : Codec (ℕ × ℕ)
seconds_and_nanos_codec = pair_codec (unsigned_codec 8) (unsigned_codec 4)

abbrev pub seconds_and_nanos : Mode → Format (ℕ × ℕ)
seconds_and_nanos = seconds_and_nanos_codec.format

-- the seconds and the nanoseconds together, in nanoseconds
abbrev pub together : ℕ × ℕ → ℕ
together p = p.0 * 1_000_000_000 + p.1

-- they mean the duration of n nanoseconds, if one can be so long; it is written with less than a second of
-- nanoseconds
abbrev pub duration_code : Codebook (ℕ × ℕ) ℕ
duration_code = record {
  means = λ p n. (n ≡ together p) × FitsDuration n;
  chosen = λ p n. (n ≡ together p) × FitsDuration n × (p.1 < 1_000_000_000);
  refusals = λ kind. kind ≡ kinds.InvalidSystemTime;
}

-- a second of nanoseconds is read, and not written
pub duration_reads_wider : ReadsWider duration_code
duration_reads_wider = record {
  code = (0, 1_000_000_000);
  value = 1_000_000_000;
  meant = (refl, omega arith);
  not_chosen = λ h. let less = h.2 in omega arith;
}

pair_is : (p q : ℕ × ℕ) → p.0 ≡ q.0 → p.1 ≡ q.1 → p ≡ q
pair_is p q h k = ap₂ (λ (a b : ℕ). let r : ℕ × ℕ = (a, b) in r) h k

twelve : (mode : Mode) (p : ℕ × ℕ) (b : List ℕ) → (seconds_and_nanos mode).encodes p b → length b ≡ 12
unfolding sequence unsigned_number
twelve mode p b h =
    let l = ap length h.whole_is ∙ length-append h.prefix h.suffix in
    let x = h.first_is.width_is in
    let y = h.second_is.width_is in
    omega arith

pub duration_is_code : (mode : Mode) → IsCode duration_code (seconds_and_nanos mode)
unfolding sequence unsigned_number
duration_is_code mode = record {
  one_meaning = λ p n m h k. h.0 ∙ sym k.0;
  one_chosen = λ _ p q n h k.
      let e = h.0 in
      let d = k.0 in
      let a = h.2 in
      let b = k.2 in
      pair_is p q (omega arith) (omega arith);
  tells = λ e. absurd (cc);
  chosen_means = λ p n h. (h.0, h.1);
  has_chosen = λ n b h.
      let s = n / 1_000_000_000 in
      let m = n % 1_000_000_000 in
      let fits = h.stands.1 in (
        digits mode.order 8 s ++ digits mode.order 4 m,
        record {
          code = (s, m);
          code_is = Parts-joined (digits mode.order 8 s) (digits mode.order 4 m)
              (EncodesNumber-digits 8 mode.order s (omega arith)) (EncodesNumber-digits 4 mode.order m (omega arith));
          stands = (omega arith, fits, omega arith);
        },
      );
  chosen_shortest = λ _ n b d h k.
      let l = twelve mode h.code b h.code_is in
      let m = twelve mode k.code d k.code_is in
      omega arith;
  refusals_own = one_kind kinds.InvalidSystemTime tt;
}

abbrev pub duration_codec : Codec ℕ
duration_codec = coding_codec duration_code seconds_and_nanos_codec duration_is_code

abbrev pub duration : Mode → Format ℕ
duration = duration_codec.format

-- a duration is encoded as its whole seconds and the rest
pub duration_encoded : {n seconds nanos : ℕ} → seconds ≡ n / 1_000_000_000 → nanos ≡ n % 1_000_000_000
    → seconds < 2 ^ 64 → Encodes seconds_and_nanos_codec duration_codec (seconds, nanos) n
unfolding sequence unsigned_number
duration_encoded s m small =
    encoded_as duration_code seconds_and_nanos_codec duration_is_code (λ _. refl)
    (omega arith, omega arith, omega arith)
