-- What the number of an error says of bytes that were checked.
use Rattle.std.specs.Prelude.{◌≡◌, ℕ, ◌<◌, ◌≤◌, ◌↔◌, List, length, IsTrue, ◌⊎◌, Result, Err}
use Rattle.std.proofs.Common.{◌∙◌, ap, sym, refl, subst, arith, inl, inr}
use Rattle.std.proofs.lemmas.Bool.{cases_lt}
use Rattle.speedy_base.specs.declared.endianness.Endianness.{Endianness}
use Rattle.speedy_base.specs.declared.endianness.Endianness.TheVariants.{LittleEndian, BigEndian}
use Rattle.speedy_base.specs.declared.error.Error.{Error}
use Rattle.speedy_base.specs.declared.error.ErrorKind.{ErrorKind}
use Rattle.speedy_base.specs.declared.error.ErrorKind.TheVariants as kinds
use Rattle.speedy_base.specs.Error.{error_of, is_eof_error, kind_of}
use Rattle.speedy_base.specs.ErrorKind.{is_eof_kind}
use Rattle.speedy_base.specs.Mode.{plain_mode}
use Rattle.speedy_layout.specs.Codecs.{Codec}
use Rattle.speedy_layout.specs.Format.{Format, IsOwnKind}
use Rattle.speedy_layout.specs.Wholes.{Misfits, WholeCodec}
use Rattle.speedy_read.specs.WaysOfReading.{AnswersBufferIf}
use Rattle.speedy_read.specs.Wholes.{RefusesWhole}
use Rattle.speedy.specs.Exports.{number_of_kind, number_of_order, EndsTooSoon, Checks, ChecksIn, ChecksWhole}
use Rattle.speedy.specs.Exports.{ChecksWholeIn, Reads, ReadsIn}
use Rattle.speedy.specs.Prefixes.{BeginsWithNone}

-- an error has a number, which is no other answer
pub kind_bounds : (k : ErrorKind) → (0 < number_of_kind k) × (number_of_kind k < 20)
kind_bounds kinds.InvalidChar = (omega arith, omega arith)
kind_bounds kinds.InvalidEnumVariant = (omega arith, omega arith)
kind_bounds kinds.InvalidUtf8 = (omega arith, omega arith)
kind_bounds kinds.InvalidSystemTime = (omega arith, omega arith)
kind_bounds kinds.ZeroNonZero = (omega arith, omega arith)
kind_bounds kinds.OutOfRangeLength = (omega arith, omega arith)
kind_bounds kinds.OutOfRangeUsize = (omega arith, omega arith)
kind_bounds kinds.UnexpectedEndOfInput = (omega arith, omega arith)
kind_bounds kinds.UnexpectedEndOfOutputBuffer = (omega arith, omega arith)
kind_bounds (kinds.InputBufferIsTooSmall actual expected) = (omega arith, omega arith)
kind_bounds (kinds.OutputBufferIsTooSmall actual expected) = (omega arith, omega arith)
kind_bounds (kinds.LengthIsNotTheSameAsLengthAttribute field) = (omega arith, omega arith)
kind_bounds (kinds.ExpectedConstant constant) = (omega arith, omega arith)
kind_bounds kinds.Unsized = (omega arith, omega arith)
kind_bounds kinds.EndiannessMismatch = (omega arith, omega arith)
kind_bounds kinds.NotWrittenForm = (omega arith, omega arith)
kind_bounds (kinds.IoError e) = (omega arith, omega arith)
kind_bounds kinds.OutOfMemory = (omega arith, omega arith)
kind_bounds (kinds.Custom text) = (omega arith, omega arith)

-- an end of the bytes has the number of one
pub end_number : (k : ErrorKind) → IsTrue (is_eof_kind k) → EndsTooSoon (number_of_kind k)
end_number kinds.UnexpectedEndOfInput h = inl refl
end_number kinds.UnexpectedEndOfOutputBuffer h = inr (inl refl)
end_number (kinds.IoError e) h = inr (inr (inr refl))
end_number _ h = let none = h in cc

-- the kinds that a type names have other numbers than an end of the bytes
own_number : (k : ErrorKind) → IsOwnKind k → number_of_kind k ≡ 8 → ⊥
own_number kinds.InvalidChar _ is = omega (arith, is)
own_number kinds.InvalidEnumVariant _ is = omega (arith, is)
own_number kinds.InvalidUtf8 _ is = omega (arith, is)
own_number kinds.InvalidSystemTime _ is = omega (arith, is)
own_number kinds.ZeroNonZero _ is = omega (arith, is)
own_number kinds.OutOfRangeLength _ is = omega (arith, is)
own_number kinds.OutOfRangeUsize _ is = omega (arith, is)
own_number kinds.UnexpectedEndOfInput own is = own
own_number kinds.UnexpectedEndOfOutputBuffer own is = own
own_number (kinds.InputBufferIsTooSmall actual expected) own is = own
own_number (kinds.OutputBufferIsTooSmall actual expected) own is = own
own_number (kinds.LengthIsNotTheSameAsLengthAttribute field) _ is = omega (arith, is)
own_number (kinds.ExpectedConstant constant) _ is = omega (arith, is)
own_number kinds.Unsized _ is = omega (arith, is)
own_number kinds.EndiannessMismatch _ is = omega (arith, is)
own_number kinds.NotWrittenForm _ is = omega (arith, is)
own_number (kinds.IoError e) own is = own
own_number kinds.OutOfMemory own is = own
own_number (kinds.Custom text) _ is = omega (arith, is)

abbrev itself : Error → Error → Type 0
itself error e = e ≡ error

-- what a check says where a read of the bytes is refused
pub checks_refused : {A V : Type 0} {seen : A → V} {least : ℕ} {F : Format V} {names : ErrorKind → Type 0} {e : Error}
    {bytes : List ℕ} {count : ℕ}
    → ((k : ErrorKind) → F.names k → IsOwnKind k)
    → (let refused : Result A Error = Err e in
    AnswersBufferIf itself is_eof_error (Unit {0}) names seen least F refused count bytes)
    → ((e ≡ error_of kinds.OutOfMemory) × IsTrue F.asks.memory) ⊎ BeginsWithNone F bytes
    → ChecksIn F bytes (number_of_kind (kind_of e)) count
checks_refused {least = least} {e = e} {bytes = bytes} own answers lacks = record {
  encoded = λ zero. absurd (omega (arith, (kind_bounds (kind_of e)).0, zero));
  refused = λ _. elim lacks [
    | inl want ↦ inl (ap (λ (x : Error). number_of_kind (kind_of x)) want.0, want.1)
    | inr none ↦ inr none
  ];
  never = λ _ fed more v rest h. elim (cases_lt (length bytes) least) [
    | inl few ↦ more (inr (inr (inl (ap (λ (x : Error). number_of_kind (kind_of x)) (answers.too_small few).0))))
    | inr many ↦ elim (answers.refused (omega (arith, many))) [
      | inl want ↦ fed (ap (λ (x : Error). number_of_kind (kind_of x)) want.0)
      | inr refused ↦ more (end_number (kind_of e) ((refused.because tt).too_short v rest h))
    ]
  ];
  grows = λ ends bad. elim (cases_lt (length bytes) least) [
    | inl few ↦
        let short = ap (λ (x : Error). number_of_kind (kind_of x)) (answers.too_small few).0 in
        omega (arith, ends, short)
    | inr many ↦ elim (answers.refused (omega (arith, many))) [
      | inl want ↦
          let lack = ap (λ (x : Error). number_of_kind (kind_of x)) want.0 in
          omega (arith, ends, lack)
      | inr refused ↦
          let named = (refused.because tt).malformed bad in
          own_number named.0 (own named.0 named.1)
          (sym (ap (λ (x : Error). number_of_kind (kind_of x)) named.2) ∙ ends)
    ]
  ];
}

-- an order is told by its number
pub same_order : (a b : Endianness) → number_of_order a ≡ number_of_order b → a ≡ b
same_order LittleEndian LittleEndian h = refl
same_order BigEndian BigEndian h = refl
same_order LittleEndian BigEndian h = absurd (omega (arith, h))
same_order BigEndian LittleEndian h = absurd (omega (arith, h))

order_bound : (order : Endianness) → number_of_order order ≤ 1
order_bound LittleEndian = omega arith
order_bound BigEndian = omega arith

-- an answer in the order of a number is not that it is unknown
not_unknown : {number answer : ℕ} (order : Endianness) → number ≡ number_of_order order → answer < 100
    → (answer ≡ 100) ↔ (1 < number)
not_unknown order is below =
    let most = order_bound order in
    (λ h. absurd (omega (arith, h, below)), λ h. absurd (omega (arith, h, is, most)))

-- a check in the order of a number
pub checks_in_order : {V : Type 0} {codec : Codec V} {number : ℕ} {bytes : List ℕ} {answer size : ℕ}
    (order : Endianness) → number ≡ number_of_order order → size ≤ length bytes → answer < 100
    → ChecksIn (codec.format (plain_mode order)) bytes answer size → Checks codec number bytes answer size
checks_in_order {codec = codec} {bytes = bytes} {answer = answer} {size = size} order is within below checks = record {
  within = within;
  unknown = not_unknown order is below;
  known = λ it h. subst (λ (o : Endianness). ChecksIn (codec.format (plain_mode o)) bytes answer size)
      (same_order order it (sym is ∙ h)) checks;
}

-- what a check of all bytes says where a read of them is refused
pub checks_whole_refused : {V : Type 0} {F : Format V} {misfits : Misfits} {e : Error} {bytes : List ℕ}
    → ((e ≡ error_of kinds.OutOfMemory) × IsTrue F.asks.memory) ⊎ RefusesWhole itself is_eof_error F misfits e bytes
    → ChecksWholeIn F bytes (number_of_kind (kind_of e))
checks_whole_refused {e = e} refused = record {
  encoded = λ zero. absurd (omega (arith, (kind_bounds (kind_of e)).0, zero));
  refused = λ _. elim refused [
    | inl want ↦ inl (ap (λ (x : Error). number_of_kind (kind_of x)) want.0, want.1)
    | inr none ↦ inr none.no_value
  ];
}

-- a check of all bytes in the order of a number
pub checks_whole_in_order : {V : Type 0} {codec : WholeCodec V} {number : ℕ} {bytes : List ℕ} {answer : ℕ}
    (order : Endianness) → number ≡ number_of_order order → answer < 100
    → ChecksWholeIn (codec.format (plain_mode order)) bytes answer → ChecksWhole codec number bytes answer
checks_whole_in_order {codec = codec} {bytes = bytes} {answer = answer} order is below checks = record {
  unknown = not_unknown order is below;
  known = λ it h. subst (λ (o : Endianness). ChecksWholeIn (codec.format (plain_mode o)) bytes answer)
      (same_order order it (sym is ∙ h)) checks;
}

-- a read in the order of a number
pub reads_in_order : {A V W : Type 0} {seen : A → V} {shows : A → W → Type 0} {codec : Codec V} {number : ℕ}
    {bytes : List ℕ} {answer size : ℕ} {old new : W}
    (order : Endianness) → number ≡ number_of_order order → size ≤ length bytes → answer < 100
    → ((answer ≡ 0 → ⊥) → new ≡ old) → ReadsIn seen shows (codec.format (plain_mode order)) bytes answer size new
    → Reads seen shows codec number bytes answer size old new
reads_in_order {seen = seen} {shows = shows} {codec = codec} {bytes = bytes} {answer = answer} {size = size}
    {new = new} order is within below kept reads = record {
      within = within;
      unknown = not_unknown order is below;
      kept = kept;
      known = λ it h. subst (λ (o : Endianness). ReadsIn seen shows (codec.format (plain_mode o)) bytes answer size new)
          (same_order order it (sym is ∙ h)) reads;
    }

-- what a refused read shows
pub reads_refused : {A V W : Type 0} {seen : A → V} {shows : A → W → Type 0} {F : Format V} {bytes : List ℕ}
    {size : ℕ} {new : W} (e : Error)
    → ChecksIn F bytes (number_of_kind (kind_of e)) size
    → ReadsIn seen shows F bytes (number_of_kind (kind_of e)) size new
reads_refused e checks = record {
  checked = checks;
  shown = λ zero. absurd (omega (arith, (kind_bounds (kind_of e)).0, zero));
}
