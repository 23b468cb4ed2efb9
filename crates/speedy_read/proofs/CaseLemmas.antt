-- How a tag is read, and behind it a value of its case.
use Rattle.std.specs.Prelude.{◌≡◌, ℕ, Bool, Option, Some, None, MatchOption, Result, Ok, Err, IsErrAnd, refl}
use Rattle.std.proofs.Common.{ap, sym, subst, inl, inr}
use Rattle.speedy_base.specs.declared.error.ErrorKind.TheVariants as kinds
use Rattle.speedy_base.specs.declared.error.Error.{Error}
use Rattle.speedy_base.specs.Error.{error_of, IsNamed}
use Rattle.speedy_base.specs.Mode.{Mode}
use Rattle.speedy_layout.specs.Choices.{
  AtTag,
  no_case,
  a_unit,
  a_case,
  Choices,
  case_format,
  case_is_tag,
  tagged,
  tagged_parts,
}
use Rattle.speedy_layout.specs.Choices.{holding}
use Rattle.speedy_layout.specs.Format.{Format}
use Rattle.speedy_layout.specs.Sequences.{asks_same}
use Rattle.speedy_layout.specs.Tuples.{unit}
use Rattle.speedy_read.specs.Cases.{ReadsBehind, ReadsHeld}
use Rattle.speedy_read.specs.Codes.{Covers, refused_covered}
use Rattle.speedy_read.specs.Reading.{Got, ReaderState, Reads}
use Rattle.speedy_read.specs.ReadingLemmas.{Got-as, Got-nothing, Kept-same}
use Rattle.speedy_read.specs.Sequences.{Composes, sequence_composes}

-- a tag is read, and then a value of its case
pub tagged_composes : {V : Type 0} (number : Mode → Format ℕ) (choices : Choices V) (f : Mode)
    → Composes (number f) (λ n. case_format (choices.case_of n) f) (tagged number choices f) (λ n v. v)
tagged_composes {V = V} number choices f =
    sequence_composes (tagged_parts choices.tag) (choices.within f)
    (λ n v s h. ap (λ (m : ℕ). let whole : ℕ × V = (m, v) in whole)
    (choices.is_tag n v (case_is_tag (choices.case_of n) f v s h)))

holding_covers : {S V : Type 0} (part : S → Option V) (F : Format V) → Covers F (holding part F)
holding_covers part F = record {
  under = λ s b h. (h.0, h.2);
  names = λ kind h. h;
  malformed = λ bytes are h. inl h;
  wrong_length = λ bytes are h. inl h;
  asks = asks_same;
}

unit_got : {S : Type 0} (part : S → Option (Unit {0})) (s : S) (o : Option (Unit {0})) → part s ≡ o
    → {old : ReaderState} → MatchOption o ⊥ (λ _. Unit {0}) → Got ((holding part unit).encodes s) old old
unfolding unit
unit_got part s (Some v) is held = Got-nothing (v, is, refl)
unit_got part s None is held = absurd held

got_held : {S V : Type 0} (part : S → Option V) (F : Format V) (s : S) (o : Option V) → part s ≡ o
    → {old new : ReaderState} → MatchOption o ⊥ (λ v. Got (F.encodes v) old new)
    → Got ((holding part F).encodes s) old new
got_held part F s (Some v) is g = Got-as (λ b k. (v, is, k)) g
got_held part F s None is g = absurd g

module _ {E : Type 0} {gives : Error → E → Type 0} {eof : E → Bool} where
  none_read : {V B : Type 0} {seen : B → V} {e : E} {old : ReaderState} (f : Mode)
      → gives (error_of kinds.InvalidEnumVariant) e → Reads gives eof seen (case_format no_case f) (Err e) old old
  none_read {V = V} {e = e} f given =
      let named : IsNamed gives (λ kind. kind ≡ kinds.InvalidEnumVariant) e = (kinds.InvalidEnumVariant, refl, given) in
      record {
        kept = Kept-same;
        answer = inr (record {
          no_fault = refl;
          kind = inr (kinds.InvalidEnumVariant, inl refl, given);
          because = λ told. record {
            no_prefix = λ v prefix rest is h. h;
            too_short = λ v more h. absurd h;
            malformed = λ _. named;
            wrong_length = λ h. absurd h;
          };
        });
      }

  held_read : {A S V : Type 0} {seen : A → S} (part : S → Option V) (F : Format V) (result : Result A E)
      {old new : ReaderState} → ReadsHeld gives eof seen part F result old new
      → Reads gives eof seen (holding part F) result old new
  held_read {seen = seen} part F (Ok x) h =
      record { kept = h.0; answer = got_held part F (seen x) (part (seen x)) refl h.1 }
  held_read {A = A} {S = S} {V = V} part F (Err e) {old = old} {new = new} h =
      let read : Reads gives eof (λ (v : V). v) F (Err e) old new = record { kept = h.0; answer = h.1 } in
      let passed : (let result : Result A E = Err e in IsErrAnd result (λ x. x ≡ e)) = refl in
      refused_covered (holding_covers part F) passed read

  -- what stands behind a tag is read as its format says
  pub behind_read : {A S : Type 0} {seen : A → S} (at_tag : AtTag S) (result : Result A E) {f : Mode}
      {old new : ReaderState} → old.mode ≡ f → ReadsBehind gives eof seen at_tag result old new
      → Reads gives eof seen (case_format at_tag f) result old new
  behind_read no_case (Ok x) same h = absurd h.0
  behind_read {A = A} {seen = seen} no_case (Err e) {f = f} {old = old} same h =
      let result : Result A E = Err e in
      subst (λ (state : ReaderState). Reads gives eof seen (case_format no_case f) result old state)
      (sym h.1) (none_read f h.0)
  behind_read {A = A} {seen = seen} (a_unit part known) (Ok x) {f = f} {old = old} same h =
      let result : Result A E = Ok x in
      subst (λ (state : ReaderState). Reads gives eof seen (case_format (a_unit part known) f) result old state)
      (sym h.1) (record { kept = Kept-same; answer = unit_got part (seen x) (part (seen x)) refl h.0 })
  behind_read (a_unit part known) (Err e) same h = absurd h.0
  behind_read {seen = seen} (a_case choice) result {old = old} {new = new} same h =
      subst (λ f. Reads gives eof seen (case_format (a_case choice) f) result old new) same
      (held_read choice.part (choice.codec.format old.mode) result h)
