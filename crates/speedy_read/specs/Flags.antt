-- How values are read that a flag or a tag chooses.
use Rattle.std.specs.Prelude.{◌≡◌, ℕ, Bool, true, false, not, nat_eq, ◌<◌, ◌≤◌, Ok, refl}
use Rattle.std.proofs.Common.{sym, subst, arith, inl, inr}
use Rattle.std.proofs.lemmas.Bool.Decides.{eqb_tells}
use Rattle.speedy_base.specs.declared.error.Error.{Error}
use Rattle.speedy_base.specs.Mode.{Mode}
use Rattle.speedy_layout.specs.Format.{Format}
use Rattle.speedy_layout.specs.Flags.{flag, IsFlag, written_flag, Branch, branch, branch_asks, variant, option}
use Rattle.speedy_layout.specs.Flags.{option_parts, option_join, alternative, alternative_parts, alternative_join}
use Rattle.speedy_layout.specs.Tuples.{unit}
use Rattle.speedy_read.specs.Reading.{ReaderState, Reads}
use Rattle.speedy_read.specs.ReadingLemmas.{Kept-same, Got-nothing}
use Rattle.speedy_read.specs.Sequences.{Composes, sequence_composes}

-- a byte that is not 0 stands for true
pub number_is_flag : (n : ℕ) → IsFlag (not (nat_eq n 0)) n
number_is_flag n =
    elim (eqb_tells n 0) [
      | inl h ↦ subst (λ (b : Bool). IsFlag (not b) n) (sym h.0) h.1
      | inr h ↦ subst (λ (b : Bool). IsFlag (not b) n) (sym h.0) (let apart = h.1 in omega arith)
    ]

-- a byte of at most 1 is the flag that is written
pub number_is_written_flag : (n : ℕ) → n ≤ 1 → n ≡ written_flag (not (nat_eq n 0))
number_is_written_flag n l =
    elim (eqb_tells n 0) [
      | inl h ↦ subst (λ (b : Bool). n ≡ written_flag (not b)) (sym h.0) h.1
      | inr h ↦ subst (λ (b : Bool). n ≡ written_flag (not b)) (sym h.0) (let apart = h.1 in omega arith)
    ]

-- a byte above 1 is written as no flag
pub not_written_flag : (n : ℕ) (b : Bool) → 1 < n → n ≡ written_flag b → ⊥
not_written_flag n true l h = omega arith
not_written_flag n false l h = omega arith

-- a variant is read as its tag, and then the value of the format that the tag chooses
pub variant_composes : {U V W : Type 0} (split : U → (b : Bool) × Branch V W b) {join : (b : Bool) → Branch V W b → U}
    {tags : Format Bool} {L : Format V} {M : Format W}
    → ((b : Bool) (w : Branch V W b) → let whole : (b : Bool) × Branch V W b = (b, w) in split (join b w) ≡ whole)
    → Composes tags (branch L M) (variant split tags L M) join
variant_composes split {L = L} {M = M} suffix = sequence_composes split (branch_asks L M) (λ b w s h. suffix b w)

-- a value that may be absent is read as a flag, and then the value where the flag is true
pub option_composes : (mode : Mode) {V : Type 0} {L : Format V}
    → Composes (flag mode) (branch L unit) (option mode L) option_join
option_composes mode {V = V} = variant_composes option_parts suffix where
  suffix : (b : Bool) (w : Branch V (Unit {0}) b) → let whole : (b : Bool) × Branch V (Unit {0}) b = (b, w) in
      option_parts (option_join b w) ≡ whole
  suffix true w = refl
  suffix false w = refl

-- one of two values is read as a flag, and then the value that the flag chooses
pub alternative_composes : (mode : Mode) {V W : Type 0} {L : Format V} {M : Format W}
    → Composes (flag mode) (branch L M) (alternative mode L M) alternative_join
alternative_composes mode {V = V} {W = W} = variant_composes alternative_parts suffix where
  suffix : (b : Bool) (w : Branch V W b) → let whole : (b : Bool) × Branch V W b = (b, w) in
      alternative_parts (alternative_join b w) ≡ whole
  suffix true w = refl
  suffix false w = refl

-- no bytes are read
pub unit_read : {E : Type 0} {gives : Error → E → Type 0} {eof : E → Bool} {A : Type 0} {seen : A → Unit {0}} {x : A}
    {old : ReaderState}
    → Reads gives eof seen unit (Ok x) old old
unfolding unit
unit_read = record { kept = Kept-same; answer = Got-nothing refl }
