-- Why bytes in memory begin with no value, from what a read of them answers.
use Rattle.std.specs.Prelude.{◌≡◌, ℕ, ◌<◌, ◌≤◌, ◌+◌, List, ◌++◌, drop, length, true, false, IsTrue, ◌⊎◌, Result, Err}
use Rattle.std.proofs.Common.{ap, ap₂, sym, ◌∙◌, subst, inl, inr, arith}
use Rattle.std.proofs.lemmas.Bool.{cases_lt}
use Rattle.std.proofs.lemmas.List.{length-append}
use Rattle.std.proofs.Math.Seq.{drop-append_seam}
use Rattle.speedy.specs.declared.error.Error.{Error}
use Rattle.speedy.specs.declared.error.ErrorKind.{ErrorKind}
use Rattle.speedy.specs.declared.error.ErrorKind.TheVariants as kinds
use Rattle.speedy.specs.Error.{error_of, is_eof_error, kind_of, IsNamed}
use Rattle.speedy.specs.ErrorKind.{EndsInput}
use Rattle.speedy.specs.Format.{Format}
use Rattle.speedy.specs.Reading.{IsEnd, Undecodable}
use Rattle.speedy.specs.WaysOfReading.{AnswersBufferIf, Counts}
use Rattle.speedy.specs.Prefixes.{BeginsWith, BeginsWithNone}
use Rattle.speedy_protocol.specs.Refusals.{MayGrow, IsRefused, IsShort, IsBroken, SaysWhy}

abbrev pub itself : Error → Error → Type 0
itself error e = e ≡ error

-- a format refuses values with no other kinds than those of what is broken
abbrev pub NamesBroken : {V : Type 0} → Format V → Type 0
NamesBroken F = (kind : ErrorKind) → F.names kind → IsBroken (error_of kind)

-- a format refuses nothing itself, and takes no memory
pub record IsUnrefused {V : Type 0} (F : Format V) : Type 0 where
  pub names : (kind : ErrorKind) → F.names kind → ⊥
  pub memory : IsTrue F.asks.memory → ⊥
  pub malformed : (bytes : List ℕ) → F.malformed bytes → ⊥

named : {V : Type 0} (F : Format V) {e : Error} → NamesBroken F → IsNamed itself F.names e → IsBroken e
named F broken names = subst IsBroken (sym names.2) (broken names.0 names.1)

-- a prefix that was read, and what is left when it is dropped
pub prefix_read : {encoded : List ℕ → Type 0} (count : ℕ) (bytes : List ℕ) → Counts encoded count bytes
    → (prefix : List ℕ) × encoded prefix × (bytes ≡ prefix ++ drop count bytes)
prefix_read count bytes read =
    let rest = ap₂ drop read.count_is read.whole_is ∙ drop-append_seam read.prefix read.rest in
    (read.prefix, read.prefix_is, read.whole_is ∙ ap (λ left. read.prefix ++ left) (sym rest))

module _ {V : Type 0} (least : ℕ) (F : Format V) {e : Error} {bytes : List ℕ}
    (names : NamesBroken F) (encoded : (v : V) (b : List ℕ) → F.encodes v b → least ≤ length b)
    (malformed : F.malformed bytes → least ≤ length bytes) where
  too_few : length bytes < least → e ≡ error_of (kinds.InputBufferIsTooSmall (length bytes) least)
      → SaysWhy least F bytes e
  too_few few is = record {
    none = λ v rest begins.
        let size = ap length begins.2 ∙ length-append begins.0 rest in
        let enough = encoded v begins.0 begins.1 in
        absurd (omega arith);
    kind = inl (inr (length bytes, least, is));
    too_small = λ _. is;
    cut = λ v more h. inr (length bytes, least, is);
    broken = λ h. absurd (let enough = malformed h in omega arith);
  }

  enough_bytes : (length bytes < least → ⊥) → IsEnd itself is_eof_error false e ⊎ IsNamed itself F.names e
      → Undecodable itself is_eof_error F e bytes → SaysWhy least F bytes e
  enough_bytes enough kind none = record {
    none = λ v rest begins. none.no_prefix v begins.0 rest begins.2 begins.1;
    kind = elim kind [ inl ends ↦ inl (inl ends.1) | inr name ↦ inr (named F names name) ];
    too_small = λ few. absurd (enough few);
    cut = λ v more h. inl (none.too_short v more h);
    broken = λ h. named F names (none.malformed h);
  }

  -- what a read of a buffer is refused as
  pub refused_why : {A : Type 0} {seen : A → V} {count : ℕ} → (let refused : Result A Error = Err e in
      AnswersBufferIf itself is_eof_error (Unit {0}) F.names seen least F refused count bytes)
      → ((e ≡ error_of kinds.OutOfMemory) × IsTrue F.asks.memory) ⊎ SaysWhy least F bytes e
  refused_why answers =
      elim (cases_lt (length bytes) least) [
        | inl few ↦ inr (too_few few (answers.too_small few).0)
        | inr enough ↦ elim (answers.refused enough) [
          | inl want ↦ inl want
          | inr refused ↦ inr (enough_bytes (λ few. omega arith) refused.kind (refused.because tt))
        ]
      ]

-- and as an end alone, where the format refuses nothing itself and takes no memory
pub refused_short : {A V : Type 0} {seen : A → V} (least : ℕ) (F : Format V) {e : Error} {count : ℕ} {bytes : List ℕ}
    → IsUnrefused F → ((v : V) (b : List ℕ) → F.encodes v b → least ≤ length b)
    → (let refused : Result A Error = Err e in
    AnswersBufferIf itself is_eof_error (Unit {0}) F.names seen least F refused count bytes)
    → IsShort e × BeginsWithNone F bytes
refused_short least F {e = e} {bytes = bytes} plain encoded answers =
    of (refused_why least F (λ kind h. absurd (plain.names kind h)) encoded
    (λ h. absurd (plain.malformed bytes h)) answers) where
      short : IsShort e
      short = elim (cases_lt (length bytes) least) [
        | inl few ↦ inr (length bytes, least, (answers.too_small few).0)
        | inr enough ↦ elim (answers.refused enough) [
          | inl want ↦ absurd (plain.memory want.1)
          | inr refused ↦ elim refused.kind [ inl ends ↦ inl ends.1 | inr name ↦ absurd (plain.names name.0 name.1) ]
        ]
      ]

      of : ((e ≡ error_of kinds.OutOfMemory) × IsTrue F.asks.memory) ⊎ SaysWhy least F bytes e
          → IsShort e × BeginsWithNone F bytes
      of (inl want) = absurd (plain.memory want.1)
      of (inr why) = (short, why.none)

-- ---- what an error says

-- want of memory says nothing of the bytes
memory_alone : {e : Error} → e ≡ error_of kinds.OutOfMemory → IsShort e ⊎ IsBroken e → ⊥
memory_alone is (inl (inl ends)) = let none = subst (λ (x : Error). IsTrue (is_eof_error x)) is ends in cc
memory_alone is (inl (inr (actual, expected, other))) = let both = ap kind_of (sym is ∙ other) in cc
memory_alone is (inr (inl other)) = let both = ap kind_of (sym is ∙ other) in cc
memory_alone is (inr (inr (inl other))) = let both = ap kind_of (sym is ∙ other) in cc
memory_alone is (inr (inr (inr other))) = let both = ap kind_of (sym is ∙ other) in cc

-- bytes that are too few are not broken
not_both : {e : Error} → IsShort e → IsBroken e → ⊥
not_both (inl ends) (inl is) = let none = subst (λ (x : Error). IsTrue (is_eof_error x)) is ends in cc
not_both (inl ends) (inr (inl is)) = let none = subst (λ (x : Error). IsTrue (is_eof_error x)) is ends in cc
not_both (inl ends) (inr (inr is)) = let none = subst (λ (x : Error). IsTrue (is_eof_error x)) is ends in cc
not_both (inr (actual, expected, other)) (inl is) = let both = ap kind_of (sym is ∙ other) in cc
not_both (inr (actual, expected, other)) (inr (inl is)) = let both = ap kind_of (sym is ∙ other) in cc
not_both (inr (actual, expected, other)) (inr (inr is)) = let both = ap kind_of (sym is ∙ other) in cc

module _ {V : Type 0} {least : ℕ} {F : Format V} {e : Error} {bytes : List ℕ}
    (why : ((e ≡ error_of kinds.OutOfMemory) × IsTrue F.asks.memory) ⊎ SaysWhy least F bytes e) where
  -- where they are too few, one may be there when more come
  pub may_grow : IsShort e → MayGrow F bytes
  may_grow short =
      elim why [
        | inl memory ↦ absurd (memory_alone memory.0 (inl short))
        | inr says ↦ (says.none, λ bad. not_both short (says.broken bad))
      ]

  -- where they are broken, none is whatever comes
  pub is_refused : IsBroken e → IsRefused F bytes
  is_refused broken =
      elim why [
        | inl memory ↦ absurd (memory_alone memory.0 (inr broken))
        | inr says ↦ (says.none, λ v more h. not_both (says.cut v more h) broken)
      ]
