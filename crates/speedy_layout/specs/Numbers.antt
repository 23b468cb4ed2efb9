-- Numbers, "as-is": n digits in the byte order of the mode. Signed ones are in two's complement.
use Rattle.std.specs.Prelude.{◌≡◌, ℕ, ℤ, ◌-◌, ◌^◌, ◌≤◌, List, ◌++◌, length, take, drop, refl}
use Rattle.std.proofs.Common.{sym, ◌∙◌, ap, subst, arith}
use Rattle.std.proofs.lemmas.List.{take_at, drop_at}
use Rattle.std.specs.Int.{Width, byte_len, cast_unsigned}
use Rattle.speedy_base.specs.declared.error.ErrorKind.TheVariants as kinds
use Rattle.speedy_base.specs.Digits.{EncodesNumber, number, digits}
use Rattle.speedy_base.specs.DigitsLemmas.{EncodesNumber-same_bytes, EncodesNumber-below, EncodesNumber-digits}
use Rattle.speedy_base.specs.Mode.{Mode}
use Rattle.speedy_base.specs.Signed.{EncodesSigned}
use Rattle.speedy_base.specs.SignedLemmas.{EncodesSigned-same_value}
use Rattle.speedy_layout.specs.Format.{Format, plain_format}
use Rattle.speedy_layout.specs.Laws.{Laws, Codec, SameWritten, plain_laws}
use Rattle.speedy_layout.specs.Codes.{subset_codec, length_subset_codec, coding, Accepts-exact_means}

-- numbers of n bytes
unfoldable pub unsigned_number : ℕ → Mode → Format ℕ
unsigned_number width mode = plain_format (EncodesNumber width mode.order)

-- signed numbers of a width
unfoldable pub signed_number : Width → Mode → Format ℤ
signed_number w mode = plain_format (EncodesSigned w mode.order)

-- the number is at most `usize::MAX`
abbrev pub FitsUsize : ℕ → Type 0
FitsUsize n = n ≤ 2 ^ 64 - 1

-- prefixes of one length are one prefix
pub same_prefixes : (s t r q : List ℕ) → length s ≡ length t → s ++ r ≡ t ++ q → (s ≡ t) × (r ≡ q)
same_prefixes s t r q l e = (
  sym (take_at s r (length s) refl) ∙ (ap (take (length s)) e ∙ take_at t q (length s) (sym l)),
  sym (drop_at s r (length s) refl) ∙ (ap (drop (length s)) e ∙ drop_at t q (length s) (sym l)),
)

pub unsigned_number_laws : (width : ℕ) (mode : Mode)
    → Laws mode.strict width (unsigned_number width mode)
unfolding unsigned_number
unsigned_number_laws width mode =
    plain_laws
    (λ v w s t r q h k e.
    let same = same_prefixes s t r q (h.width_is ∙ sym k.width_is) e in
    (sym h.value_is ∙ (ap (number mode.order) same.0 ∙ k.value_is), same.0, same.1))
    (λ v b h. let l = h.width_is in omega arith)
    (λ v b c h k. EncodesNumber-same_bytes width mode.order v b c h k)

-- by the laws of their digits
pub signed_number_laws : (w : Width) (mode : Mode)
    → Laws mode.strict (byte_len w) (signed_number w mode)
unfolding signed_number unsigned_number
signed_number_laws w mode =
    let laws = unsigned_number_laws (byte_len w) mode in
    plain_laws
    (λ y z s t r q h k e.
    let same = laws.decodes (cast_unsigned w y) (cast_unsigned w z) s t r q h.digits k.digits e in (
      EncodesSigned-same_value w mode.order y z t (subst (EncodesSigned w mode.order y) same.1 h) k,
      same.1,
      same.2,
    ))
    (λ z b h. laws.least_size (cast_unsigned w z) b h.digits)
    (λ z b c h k. EncodesNumber-same_bytes (byte_len w) mode.order (cast_unsigned w z) b c h.digits k.digits)

pub unsigned_written : (width : ℕ) → SameWritten (unsigned_number width)
unfolding unsigned_number
unsigned_written width f strict = record { too = λ v b h. h }

pub signed_written : (w : Width) → SameWritten (signed_number w)
unfolding signed_number
signed_written w f strict = record { too = λ v b h. h }

abbrev pub unsigned_codec : ℕ → Codec ℕ
unsigned_codec width = record {
  least = width;
  format = unsigned_number width;
  laws = unsigned_number_laws width;
  same_written = unsigned_written width;
}

abbrev pub signed_codec : Width → Codec ℤ
signed_codec w = record {
  least = byte_len w;
  format = signed_number w;
  laws = signed_number_laws w;
  same_written = signed_written w;
}

-- numbers of eight digits that a `usize` holds
abbrev pub usize_codec : Codec ℕ
usize_codec = subset_codec FitsUsize kinds.OutOfRangeUsize tt (unsigned_codec 8)

abbrev pub usize_number : Mode → Format ℕ
usize_number = usize_codec.format

-- numbers of w digits that are at most `greatest`; greater ones are refused as lengths
abbrev pub length_codec : ℕ → ℕ → Codec ℕ
length_codec width greatest = length_subset_codec (λ n. n ≤ greatest) (unsigned_codec width)

abbrev pub length_number : ℕ → ℕ → Mode → Format ℕ
length_number width greatest = (length_codec width greatest).format

-- ---- smaller numbers

-- a smaller number is written in no more bytes than any encoding of a greater one has
abbrev pub WritesSmaller : Format ℕ → Type 0
WritesSmaller F =
    (n m : ℕ) (s : List ℕ) → n ≤ m → F.encodes m s → (b : List ℕ) × F.writes n b × (length b ≤ length s)

pub unsigned_smaller : (width : ℕ) (mode : Mode) → WritesSmaller (unsigned_number width mode)
unfolding unsigned_number
unsigned_smaller width mode n m s l h =
    let below = EncodesNumber-below width mode.order m s h in
    let encoded = EncodesNumber-digits width mode.order n (omega arith) in
    let b = encoded.width_is in
    let c = h.width_is in
    (digits mode.order width n, encoded, omega arith)

pub length_smaller : (width greatest : ℕ) (mode : Mode)
    → WritesSmaller (length_number width greatest mode)
unfolding coding
length_smaller width greatest mode n m s l h =
    let is = Accepts-exact_means mode.strict (λ (u v : ℕ). (u ≡ v) × (v ≤ greatest))
    (λ kind. kind ≡ kinds.OutOfRangeLength) h.code m h.stands in
    let b = unsigned_smaller width mode n h.code s (let e = is.0 in omega arith) h.code_is in
    let most = is.1 in
    (b.0, record { code = n; code_is = b.1; stands = (refl, omega arith) }, b.2)
