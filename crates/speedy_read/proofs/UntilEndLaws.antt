-- What a clean read until the end answers is decided by the bytes.
use Rattle.std.specs.Prelude.{◌≡◌, ◌≢◌, ℕ, ◌<◌, ◌≤◌, List, [], ◌∷◌, ◌++◌, length, map, Bool, IsTrue, ◌⊎◌, Result, Ok}
use Rattle.std.specs.Prelude.{Err, MatchResult, refl}
use Rattle.std.proofs.Common.{sym, ◌∙◌, ap, subst, arith, inl, inr}
use Rattle.std.proofs.lemmas.Bool.{true≢false, cases_lt}
use Rattle.std.proofs.lemmas.List.{append_assoc, append-nil, length-append, length-map}
use Rattle.speedy_base.specs.declared.error.ErrorKind.TheVariants as kinds
use Rattle.speedy_base.specs.declared.error.Error.{Error}
use Rattle.speedy_base.specs.Mode.{Mode}
use Rattle.speedy_base.specs.Error.{error_of, Errors, IsNamed}
use Rattle.speedy_layout.specs.Format.{Format, Each}
use Rattle.speedy_layout.specs.Laws.{Laws}
use Rattle.speedy_layout.specs.Lists.{each_decodes}
use Rattle.speedy_read.specs.Reading.{ReaderState, IsTold, refusing_kinds}
use Rattle.speedy_read.specs.UntilEnd.{Begin, UntilEndIsDecided, CleanUntilEnd}
use Rattle.speedy_read.proofs.ListLemmas.{next_item}

-- the bytes begin with no encoding
abbrev StandsNone : {V : Type 0} → Format V → List ℕ → Type 0
StandsNone {V = V} L bytes = (v : V) (prefix rest : List ℕ) → bytes ≡ prefix ++ rest → L.encodes v prefix → ⊥

module _ {V : Type 0} {strict : Bool} {least : ℕ} {L : Format V} (laws : Laws strict least L) where
  -- a prefix of a longer encoding begins with none
  no_prefix_of_prefix : (v : V) (prefix more : List ℕ) → L.encodes v (prefix ++ more) → more ≢ [] → StandsNone L prefix
  no_prefix_of_prefix v prefix [] h some w s rest is k = some refl
  no_prefix_of_prefix v prefix (x ∷ more) h some w s rest is k =
      let all : List ℕ = x ∷ more in
      let joined : s ++ (rest ++ all) ≡ (prefix ++ all) ++ [] =
      sym (append_assoc s rest all) ∙ (ap (λ b. b ++ all) (sym is) ∙ sym (append-nil (prefix ++ all))) in
      let same = laws.decodes w v s (prefix ++ all) (rest ++ all) [] k h joined in
      let a = ap length same.1 ∙ length-append prefix all in
      let b = ap length is ∙ length-append s rest in
      omega arith

  module _ {old : ReaderState} (vs : List V) (bytes tail : List ℕ) (are : Each L.encodes vs bytes)
      (whole_is : old.remaining ≡ bytes ++ tail) where
    -- where fewer values stand in front, one more stands behind them
    fewer_in_prefix : (us : List V) (b : Begin L us old) → IsTrue old.fixed.tells → length us < length vs
        → (w : V) × (prefix rest : List ℕ) × (b.rest ≡ prefix ++ rest) × L.encodes w prefix
    fewer_in_prefix us b told l =
        next_item laws us vs b.prefix bytes b.rest tail l b.prefix_is are (sym (b.stands told) ∙ whole_is)

    -- where more do, one stands in the tail
    more_in_prefix : (us : List V) (b : Begin L us old) → IsTrue old.fixed.tells → length vs < length us
        → (w : V) × (prefix rest : List ℕ) × (tail ≡ prefix ++ rest) × L.encodes w prefix
    more_in_prefix us b told l =
        next_item laws vs us bytes b.prefix tail b.rest l are b.prefix_is (sym whole_is ∙ b.stands told)

    as_many : (us : List V) (b : Begin L us old) → IsTrue old.fixed.tells → length us ≡ length vs
        → (us ≡ vs) × (b.rest ≡ tail)
    as_many us b told l =
        let same =
        each_decodes laws us vs b.prefix bytes b.rest tail l b.prefix_is are (sym (b.stands told) ∙ whole_is) in
        (same.0, same.2)

    -- where none stands behind those in front, and none in the tail, just these stand in front
    just_these : (us : List V) (b : Begin L us old) → IsTrue old.fixed.tells → StandsNone L b.rest → StandsNone L tail
        → (us ≡ vs) × (b.rest ≡ tail)
    just_these us b told no_more none =
        elim (cases_lt (length us) (length vs)) [
          | inl l ↦ (let w = fewer_in_prefix us b told l in absurd (no_more w.0 w.1 w.2 w.3 w.4))
          | inr l ↦ elim (cases_lt (length vs) (length us)) [
            | inl m ↦ (let w = more_in_prefix us b told m in absurd (none w.0 w.1 w.2 w.3 w.4))
            | inr m ↦ as_many us b told (omega arith)
          ]
        ]

  -- malformed bytes begin with none
  none_in_fault : {bytes : List ℕ} → L.malformed bytes → StandsNone L bytes
  none_in_fault bad w prefix rest is = laws.malformed_undecodable w prefix rest (subst L.malformed is bad)

  -- where all is lent that a type borrows, it is refused with a kind that it names
  lent_kind : {E : Type 0} (gives : Error → E → Type 0) {e : E} {old : ReaderState}
      → IsNamed gives (refusing_kinds L old.fixed.lends) e → IsTold L old
      → IsNamed gives L.names e
  lent_kind gives (kind, inl named, given) told = (kind, named, given)
  lent_kind gives (kind, inr unlent, given) told = absurd (true≢false (sym (told.lends unlent.0) ∙ unlent.1))

  module _ {E T F : Type 0} {gives : Error → E → Type 0} {eof : E → Bool} {seen : T → V} {gathers : List T → F → Type 0}
      {greatest : ℕ} {old new : ReaderState} (vs : List V) (bytes tail : List ℕ) (are : Each L.encodes vs bytes)
      (whole_is : old.remaining ≡ bytes ++ tail) where
    pub cut_is_read : (v : V) (more : List ℕ) {result : Result F E} → L.encodes v (tail ++ more) → more ≢ []
        → length vs ≤ greatest → CleanUntilEnd gives eof seen gathers L greatest result old new
        → MatchResult result (λ whole. (items : List T) × (map seen items ≡ vs) × gathers items whole)
        (gives (error_of kinds.OutOfMemory))
    cut_is_read v more {result = Ok whole} encoded some within c =
        let got = c.read.answer in
        elim got.ended [
          | inr x ↦ absurd (c.clean x.2.0)
          | inl x ↦ (
            got.items,
            (just_these vs bytes tail are whole_is (map seen got.items) got.begin c.told.tells (x.1 c.told).no_prefix
                (no_prefix_of_prefix v tail more encoded some)).0,
            got.gathered,
          )
        ]
    cut_is_read v more {result = Err e} encoded some within c =
        let none = no_prefix_of_prefix v tail more encoded some in
        elim c.read.answer [
          | inl x ↦ elim x [ inl y ↦ y.0 | inr y ↦ absurd (c.clean y.0) ]
          | inr x ↦ elim x [
            | inl y ↦
                let l = length-map y.items seen in
                let w = more_in_prefix vs bytes tail are whole_is (map seen y.items) y.begin c.told.tells
                (let m = y.more in omega arith) in
                absurd (none w.0 w.1 w.2 w.3 w.4)
            | inr y ↦
                let un = y.because c.told in
                let same =
                just_these vs bytes tail are whole_is (map seen y.items) y.begin c.told.tells un.no_prefix none in
                let ends =
                un.too_short v more (subst (λ (b : List ℕ). L.encodes v (b ++ more)) (sym same.1) encoded) in
                let no_end = y.no_end in
                absurd (cc)
          ]
        ]

    pub too_many_refused : {result : Result F E} → greatest < length vs
        → CleanUntilEnd gives eof seen gathers L greatest result old new
        → MatchResult result (λ _. ⊥)
        (λ e. gives (error_of kinds.OutOfRangeLength) e ⊎ gives (error_of kinds.OutOfMemory) e)
    too_many_refused {result = Ok whole} past c =
        let got = c.read.answer in
        let l = length-map got.items seen in
        elim got.ended [
          | inr x ↦ c.clean x.2.0
          | inl x ↦
              let ends = x.1 c.told in
              let w = fewer_in_prefix vs bytes tail are whole_is (map seen got.items) got.begin c.told.tells
              (let m = got.at_most in omega arith) in
              ends.no_prefix w.0 w.1 w.2 w.3 w.4
        ]
    too_many_refused {result = Err e} past c =
        elim c.read.answer [
          | inl x ↦ elim x [ inl y ↦ inr y.0 | inr y ↦ absurd (c.clean y.0) ]
          | inr x ↦ elim x [
            | inl y ↦ inl y.kind
            | inr y ↦
                let l = length-map y.items seen in
                let un = y.because c.told in
                let w = fewer_in_prefix vs bytes tail are whole_is (map seen y.items) y.begin c.told.tells
                (let m = y.at_most in omega arith) in
                absurd (un.no_prefix w.0 w.1 w.2 w.3 w.4)
          ]
        ]

    pub fault_refused : {result : Result F E} → L.malformed tail → length vs ≤ greatest
        → CleanUntilEnd gives eof seen gathers L greatest result old new
        → MatchResult result (λ _. ⊥) (λ e. IsNamed gives L.names e ⊎ gives (error_of kinds.OutOfMemory) e)
    fault_refused {result = Ok whole} bad within c =
        let got = c.read.answer in
        elim got.ended [
          | inr x ↦ c.clean x.2.0
          | inl x ↦
              let ends = x.1 c.told in
              let same =
              just_these vs bytes tail are whole_is (map seen got.items) got.begin c.told.tells ends.no_prefix
              (none_in_fault bad) in
              ends.not_malformed (subst L.malformed (sym same.1) bad)
        ]
    fault_refused {result = Err e} bad within c =
        elim c.read.answer [
          | inl x ↦ elim x [ inl y ↦ inr y.0 | inr y ↦ absurd (c.clean y.0) ]
          | inr x ↦ elim x [
            | inl y ↦
                let l = length-map y.items seen in
                let w = more_in_prefix vs bytes tail are whole_is (map seen y.items) y.begin c.told.tells
                (let m = y.more in omega arith) in
                absurd (none_in_fault bad w.0 w.1 w.2 w.3 w.4)
            | inr y ↦ inl (lent_kind gives y.kind c.told)
          ]
        ]

pub until_end_is_decided : {E T F V : Type 0} (errors : Errors E) (seen : T → V) (gathers : List T → F → Type 0)
    (least : ℕ) (format : Mode → Format V) → ((mode : Mode) → Laws mode.strict least (format mode))
    → UntilEndIsDecided errors seen gathers format
until_end_is_decided errors seen gathers least format laws = record {
  cut = λ {mode} vs v bytes prefix more are encoded some within is c.
      cut_is_read (laws mode) vs bytes prefix are is v more encoded some within c;
  too_many = λ {mode} vs bytes rest are past is c. too_many_refused (laws mode) vs bytes rest are is past c;
  at_fault = λ {mode} vs bytes rest are bad within is c.
      fault_refused (laws mode) vs bytes rest are is bad within c;
}
