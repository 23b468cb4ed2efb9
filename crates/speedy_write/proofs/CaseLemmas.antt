-- How a value of a case is written behind its tag.
use Rattle.std.specs.Prelude.{◌≡◌, ℕ, List, Option, Some, None, MatchOption, [], Result, Ok, Err, IsOk}
use Rattle.std.specs.Prelude.{refl}
use Rattle.std.proofs.Common.{sym, subst, inl}
use Rattle.speedy_base.specs.declared.error.Error.{Error}
use Rattle.speedy_base.specs.Mode.{Mode}
use Rattle.speedy_layout.specs.Choices.{AtTag, no_case, a_unit, a_case, case_format, case_laws, holding, holds_one}
use Rattle.speedy_layout.specs.Format.{Format}
use Rattle.speedy_layout.specs.Tuples.{unit}
use Rattle.speedy_write.specs.Cases.{RefusesRepeated, WritesCase}
use Rattle.speedy_write.specs.Sequences.{Writes-as, unit_written}
use Rattle.speedy_write.specs.Writing.{WriterState, Writes}
use Rattle.speedy_write.proofs.NumberLemmas.{undecodable_refused}

module _ {E S : Type 0} {gives : Error → E → Type 0} (state : S → WriterState)
    (appends : S → List ℕ → S → Type 0) {old new : S} where
  -- a value that no bytes encode is refused before anything is written
  repeated_written : {V : Type 0} (at_tag : AtTag V) (value : V) (result : Result (Unit {0}) E)
      → ((b : List ℕ) → (case_format at_tag (state old).mode).encodes value b → ⊥)
      → RefusesRepeated gives result old new → appends old [] old
      → Writes gives (case_format at_tag) value result (state old) (state new) (λ b. appends old b new)
  repeated_written at_tag value (Ok _) undecodable refused nothing = absurd refused.0
  repeated_written at_tag value (Err e) undecodable refused nothing =
      let failed : Result (Unit {0}) E = Err e in
      subst (λ (s : S). Writes gives (case_format at_tag) value failed (state old) (state s) (λ b. appends old b s))
      (sym refused.1)
      (undecodable_refused (case_laws at_tag (state old).mode) undecodable (inl refused.0) nothing)

  held_written : {V P : Type 0} (part : V → Option P) (F : Mode → Format P) (value : V) (v : P)
      (result : Result (Unit {0}) E) → part value ≡ Some v
      → Writes gives F v result (state old) (state new) (λ b. appends old b new)
      → Writes gives (λ f. holding part (F f)) value result (state old) (state new) (λ b. appends old b new)
  held_written part F value v result is w =
      Writes-as (λ _ k. k) (λ b h. (v, is, h))
      (λ b h. (b, subst (λ x. (F (state old).mode).writes x b) (holds_one (part value) h.0 v h.1 is) h.2, refl))
      (λ b h. (b, subst (λ x. (F (state old).mode).encodes x b) (holds_one (part value) h.0 v h.1 is) h.2)) w

  unit_held_written : {V : Type 0} (part : V → Option (Unit {0})) (value : V) (v : Unit {0})
      (result : Result (Unit {0}) E) → part value ≡ Some v → appends old [] old → IsOk result → new ≡ old
      → Writes gives (λ _. holding part unit) value result (state old) (state new) (λ b. appends old b new)
  unit_held_written part value v (Ok done) is nothing ok same =
      let written : Result (Unit {0}) E = Ok done in
      held_written part (λ _. unit) value v written is
      (subst (λ (s : S). Writes gives (λ _. unit) v written (state old) (state s) (λ b. appends old b s)) (sym same)
      (unit_written nothing))
  unit_held_written part value v (Err e) is nothing ok same = absurd (cc)

  -- what a value of a case holds is written as what stands behind its tag
  pub case_written : {V : Type 0} (at_tag : AtTag V) (value : V) (result : Result (Unit {0}) E) → appends old [] old
      → WritesCase gives state appends at_tag value result old new
      → Writes gives (case_format at_tag) value result (state old) (state new) (λ b. appends old b new)
  case_written no_case value result nothing refused = repeated_written no_case value result (λ b h. h) refused nothing
  case_written (a_unit part known) value result nothing w = by (part value) refl w where
    by : (o : Option (Unit {0})) → part value ≡ o
        → MatchOption o (RefusesRepeated gives result old new) (λ _. IsOk result × (new ≡ old))
        → Writes gives (case_format (a_unit part known)) value result (state old) (state new) (λ b. appends old b new)
    by None is refused =
        repeated_written (a_unit part known) value result (λ b h. let e = h.1 in absurd (cc)) refused nothing
    by (Some v) is w = unit_held_written part value v result is nothing w.0 w.1
  case_written (a_case choice) value result nothing w = by (choice.part value) refl w where
    by : (o : Option choice.Part) → choice.part value ≡ o
        → MatchOption o (RefusesRepeated gives result old new)
        (λ v. Writes gives choice.codec.format v result (state old) (state new) (λ b. appends old b new))
        → Writes gives (case_format (a_case choice)) value result (state old) (state new) (λ b. appends old b new)
    by None is refused =
        repeated_written (a_case choice) value result (λ b h. let e = h.1 in absurd (cc)) refused nothing
    by (Some v) is w = held_written choice.part choice.codec.format value v result is w
