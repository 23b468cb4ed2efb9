-- What the writing of numbers and lengths cites.
use Rattle.std.specs.Prelude.{◌≡◌, ℕ, ℤ, ◌+◌, ◌^◌, ◌≤◌, ◌<◌, List, [], ◌∷◌, Bool, Result}
use Rattle.std.specs.Prelude.{Err, refl}
use Rattle.std.proofs.Common.{subst, arith, inr, inl}
use mir.ValLaws.{to_z-of_z}
use Rattle.std.specs.Int.{Width, cast_unsigned, cast_signed}
use Rattle.std.specs.Int.RustNames.{FitsSigned}
use Rattle.speedy_base.specs.declared.error.ErrorKind.TheVariants as kinds
use Rattle.speedy_base.specs.declared.error.Error.{Error}
use Rattle.speedy_base.specs.Digits.{EncodesNumber, digits}
use Rattle.speedy_base.specs.declared.endianness.Endianness.TheVariants.{LittleEndian}
use Rattle.speedy_base.specs.DigitsLemmas.{EncodesNumber-below, EncodesNumber-digits}
use Rattle.speedy_base.specs.Mode.{Mode}
use Rattle.speedy_base.specs.Error.{error_of}
use Rattle.speedy_layout.specs.Codes.{coding, Accepts-exact_means}
use Rattle.speedy_layout.specs.Encoding.{length_encoded}
use Rattle.speedy_layout.specs.Format.{Format}
use Rattle.speedy_layout.specs.Laws.{Laws}
use Rattle.speedy_layout.specs.Numbers.{unsigned_number, unsigned_number_laws, signed_number}
use Rattle.speedy_layout.specs.Numbers.{length_number, length_codec, unsigned_codec}
use Rattle.speedy_layout.specs.Varint.{varint, prefixed_written}
use Rattle.speedy_write.specs.Codes.{encoded_written}
use Rattle.speedy_write.specs.Lengths.{WritesLength}
use Rattle.speedy_write.specs.Writing.{WriterState, IsOutOfRange, Writes, WritesNumber}
use Rattle.speedy_write.specs.Sequences.{Kept-same}

module _ {E : Type 0} {gives : Error → E → Type 0} {result : Result (Unit {0}) E} {old new : WriterState}
    {appended : List ℕ → Type 0} where
  -- a signed number is what its bits stand for
  pub signed_value_written : {z : ℤ} (w : Width) → FitsSigned w z
      → Writes gives (signed_number w) (cast_signed w (cast_unsigned w z)) result old new appended
      → Writes gives (signed_number w) z result old new appended
  signed_value_written {z = z} w range h =
      subst (λ (y : ℤ). Writes gives (signed_number w) y result old new appended) (to_z-of_z w z range) h

-- a value that no bytes encode is refused before anything is written
pub undecodable_refused : {E V : Type 0} {gives : Error → E → Type 0} {F : Mode → Format V} {v : V} {e : E}
    {old : WriterState} {appended : List ℕ → Type 0} {strict : Bool} {least : ℕ} → Laws strict least (F old.mode)
    → ((b : List ℕ) → (F old.mode).encodes v b → ⊥) → IsOutOfRange gives (F old.mode).refuses_writing e
    → appended [] → Writes gives F v (Err e) old old appended
undecodable_refused {v = v} {old = old} laws undecodable given nothing = record {
  kept = Kept-same old;
  answer = record {
    beginning = λ b h. absurd (undecodable b (laws.written_encodes v b h));
    appends = ([], nothing);
    because = inr (record {
      no_fault = refl;
      no_fit = λ b h _. undecodable b (laws.written_encodes v b h);
      no_encoding = λ _ b h. undecodable b h;
      kind = inr given;
    });
  };
}

module _ {E S : Type 0} {gives : Error → E → Type 0} {state : S → WriterState} {appends : S → List ℕ → S → Type 0}
    {n bound : ℕ} {old : S} where
  -- so is a length that is past what all lengths are that are encoded
  long_refused : {F : Mode → Format ℕ} {least : ℕ} {e : E} → ((mode : Mode) → Laws mode.strict least (F mode))
      → ((mode : Mode) (b : List ℕ) → (F mode).encodes n b → n < bound) → bound ≤ n
      → gives (error_of kinds.OutOfRangeLength) e → appends old [] old
      → WritesLength gives state appends F bound n (Err e) old old
  long_refused laws within long given nothing = record {
    writes = undecodable_refused (laws _) (λ b h. let below = within _ b h in omega arith) (inl given) nothing;
    full = λ below. absurd (omega arith);
    too_long = λ _. (refl, given);
  }

  -- of a number of n bytes
  pub too_long_refused : (width : ℕ) {e : E} → bound ≡ 256 ^ width → bound ≤ n
      → gives (error_of kinds.OutOfRangeLength) e → appends old [] old
      → WritesLength gives state appends (unsigned_number width) bound n (Err e) old old
  unfolding unsigned_number
  too_long_refused width is long given nothing =
      long_refused (λ mode. unsigned_number_laws width mode)
      (λ mode b h. let below = EncodesNumber-below width mode.order n b h in omega arith) long given nothing

  -- and of one that is at most a greatest one
  pub past_greatest_refused : (width greatest : ℕ) {e : E} → bound ≡ greatest + 1 → bound ≤ n
      → gives (error_of kinds.OutOfRangeLength) e → appends old [] old
      → WritesLength gives state appends (length_number width greatest) bound n (Err e) old old
  unfolding coding
  past_greatest_refused width greatest is long given nothing =
      long_refused (length_codec width greatest).laws
      (λ mode b h. let means = Accepts-exact_means mode.strict _ _ _ _ h.stands in
      let same = means.0 in let within = means.1 in omega arith) long given nothing

  -- which is written as the number is
  pub within_greatest_written : (width greatest : ℕ) {result : Result (Unit {0}) E} {new : S} → bound ≡ greatest + 1
      → n < bound → WritesNumber gives state appends width n result old new
      → WritesLength gives state appends (length_number width greatest) bound n result old new
  within_greatest_written width greatest is within w = record {
    writes = encoded_written (length_encoded _ (unsigned_codec width) refl (omega arith)) w.writes;
    full = λ _. w.full;
    too_long = λ past. absurd (omega arith);
  }

-- a small number is written as itself
no_digits : EncodesNumber 0 LittleEndian 0 []
unfolding digits
no_digits = EncodesNumber-digits 0 LittleEndian 0 (omega arith)

pub small_written : (mode : Mode) (n : ℕ) → n < 128 → (varint mode).writes n (n ∷ [])
unfolding varint coding
small_written mode n small = record {
  code = ((0, n), 0);
  code_is = prefixed_written mode 0 n 0 n []
      (record { at_most_eight = omega arith; low_is_below = small; byte_is = omega arith }) no_digits;
  stands = (
    record { at_most_eight = omega arith; enough = small; no_shorter = λ j less. absurd (omega arith) },
    omega arith,
    omega arith,
  );
}
