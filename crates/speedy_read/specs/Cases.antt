-- How what stands behind a tag is read: words as those of `Reading`.
use Rattle.std.specs.Prelude.{◌≡◌, Bool, ◌⊎◌, Option, MatchOption, Result, MatchResult, IsOkAnd, IsErrAnd}
use Rattle.speedy_base.specs.declared.error.ErrorKind.TheVariants as kinds
use Rattle.speedy_base.specs.declared.error.Error.{Error}
use Rattle.speedy_base.specs.Error.{error_of, Errors}
use Rattle.speedy_layout.specs.Choices.{AtTag, no_case, a_unit, a_case}
use Rattle.speedy_layout.specs.Format.{Format}
use Rattle.speedy_read.specs.Reading.{Excused, Got, Kept, ReaderState, Refused}

module _ {E : Type 0} (gives : Error → E → Type 0) (eof : E → Bool) where
  -- the read of a value that holds what a format encodes
  abbrev pub ReadsHeld : {A S V : Type 0} → (A → S) → (S → Option V) → Format V → Result A E → ReaderState
      → ReaderState → Type 0
  ReadsHeld seen part F result old new =
      Kept old new
      × MatchResult result (λ x. MatchOption (part (seen x)) ⊥ (λ v. Got (F.encodes v) old new))
      (λ e. Excused gives F.asks.memory e old new ⊎ Refused gives eof F e old new)

  -- the read of what stands behind a tag
  abbrev pub ReadsBehind : {A S : Type 0} → (A → S) → AtTag S → Result A E → ReaderState → ReaderState → Type 0
  ReadsBehind seen no_case result old new =
      IsErrAnd result (λ e. gives (error_of kinds.InvalidEnumVariant) e) × (new ≡ old)
  ReadsBehind seen (a_unit part known) result old new =
      IsOkAnd result (λ x. MatchOption (part (seen x)) ⊥ (λ _. Unit {0})) × (new ≡ old)
  ReadsBehind seen (a_case choice) result old new =
      ReadsHeld seen choice.part (choice.codec.format old.mode) result old new

-- A read of what stands behind a tag: a value of the case that has it, or the error `InvalidEnumVariant`, where
-- nothing is read, as of a case without parts.
abbrev pub ReadsCase : {E S A V : Type 0} → Errors E → (S → ReaderState) → (A → V) → AtTag V → Result A E → S → S
    → Type 0
ReadsCase errors state seen at_tag result old new =
    ReadsBehind errors.from_gives errors.eof seen at_tag result (state old) (state new)
