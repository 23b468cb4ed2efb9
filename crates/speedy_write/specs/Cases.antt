-- How what stands behind a tag is written: words as those of `Writing`.
use Rattle.std.specs.Prelude.{◌≡◌, List, ℕ, MatchOption, Result, IsOk, IsErrAnd}
use Rattle.speedy_base.specs.declared.error.ErrorKind.TheVariants as kinds
use Rattle.speedy_base.specs.declared.error.Error.{Error}
use Rattle.speedy_base.specs.Error.{error_of}
use Rattle.speedy_layout.specs.Choices.{AtTag, no_case, a_unit, a_case}
use Rattle.speedy_write.specs.Writing.{WriterState, Writes}

-- nothing is written of a value whose tag is that of an earlier case
abbrev pub RefusesRepeated : {E S : Type 0} → (Error → E → Type 0) → Result (Unit {0}) E → S → S → Type 0
RefusesRepeated gives result old new = IsErrAnd result (λ e. gives (error_of kinds.OutOfRangeLength) e) × (new ≡ old)

module _ {E S : Type 0} (gives : Error → E → Type 0) (state : S → WriterState) (appends : S → List ℕ → S → Type 0) where
  -- the write of what a value of a case holds
  abbrev pub WritesCase : {V : Type 0} → AtTag V → V → Result (Unit {0}) E → S → S → Type 0
  WritesCase no_case value result old new = RefusesRepeated gives result old new
  WritesCase (a_unit part known) value result old new =
      MatchOption (part value) (RefusesRepeated gives result old new) (λ _. IsOk result × (new ≡ old))
  WritesCase (a_case choice) value result old new =
      MatchOption (choice.part value) (RefusesRepeated gives result old new)
      (λ v. Writes gives choice.codec.format v result (state old) (state new) (λ b. appends old b new))
