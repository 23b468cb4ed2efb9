-- Reads of items until the bytes end.
use Rattle.std.specs.Prelude.{◌≡◌, ◌≢◌, ℕ, ◌+◌, ◌≤◌, ◌<◌, List, [], ◌++◌, length, map, Bool, true, false, IsTrue, ◌⊎◌}
use Rattle.std.specs.Prelude.{Option, MatchOption, Result, Err, Ok, IfOk, MatchResult}
use Rattle.std.proofs.Common.{sym, ◌∙◌, subst}
use Rattle.speedy_base.specs.declared.error.ErrorKind.TheVariants as kinds
use Rattle.speedy_base.specs.declared.error.Error.{Error}
use Rattle.speedy_base.specs.Error.{error_of, Errors, IsNamed}
use Rattle.speedy_base.specs.Mode.{Mode}
use Rattle.speedy_base.specs.FailedCalls.{HasGrown, IsOfFault}
use Rattle.speedy_layout.specs.Codecs.{Codec}
use Rattle.speedy_layout.specs.Format.{Format, Each}
use Rattle.speedy_read.specs.Reading.{ReaderState, Kept, refusing_kinds, Excused, IsTold, Undecodable, ReadsValue}

-- the bytes begin with these values, one after another
pub record Begin {V : Type 0} (L : Format V) (vs : List V) (old : ReaderState) : Type 0 where
  pub prefix : List ℕ
  pub rest : List ℕ
  pub prefix_is : Each L.encodes vs prefix
  pub stands : IsTrue old.fixed.tells → old.remaining ≡ prefix ++ rest

-- at the front of the bytes stands no value, and nothing that the type refuses
pub record EndsBefore {V : Type 0} (L : Format V) (bytes : List ℕ) : Type 0 where
  pub no_prefix : (v : V) (prefix rest : List ℕ) → bytes ≡ prefix ++ rest → L.encodes v prefix → ⊥
  pub not_malformed : L.malformed bytes → ⊥

module _ {E : Type 0} (gives : Error → E → Type 0) (eof : E → Bool) where
  -- no call of the device failed, and the bytes end before an item more; or a failed call stands for an end
  abbrev pub Ended : {V : Type 0} → Format V → List ℕ → ReaderState → ReaderState → Type 0
  Ended L rest old new =
      ((new.faults ≡ old.faults) × (IsTold L old → EndsBefore L rest))
      ⊎ ((e : E) × IsTrue (eof e) × IsOfFault gives old.fixed.tells_faults e old.faults new.faults)

  module _ {T V : Type 0} (seen : T → V) (L : Format V) (greatest : ℕ) where
    -- one item more than are allowed stands there
    pub record TooMany (e : E) (old new : ReaderState) : Type 0 where
      pub items : List T
      pub more : length items ≡ greatest + 1
      pub begin : Begin L (map seen items) old
      pub no_fault : new.faults ≡ old.faults
      pub kind : gives (error_of kinds.OutOfRangeLength) e

    -- behind at most n items stand bytes that are refused, and no end
    pub record ItemRefused (e : E) (old new : ReaderState) : Type 0 where
      pub items : List T
      pub at_most : length items ≤ greatest
      pub begin : Begin L (map seen items) old
      pub no_fault : new.faults ≡ old.faults
      pub no_end : eof e ≡ false
      pub kind : IsNamed gives (refusing_kinds L old.fixed.lends) e
      pub because : IsTold L old → Undecodable gives eof L e begin.rest

    -- why it is refused: want of memory, a failed call of the device that stands for no end, an item too many, or one
    -- that is at fault
    abbrev pub RefusesUntilEnd : E → ReaderState → ReaderState → Type 0
    RefusesUntilEnd e old new = Excused gives true e old new ⊎ (TooMany e old new ⊎ ItemRefused e old new)

  module _ {T F V : Type 0} (seen : T → V) (gathers : List T → F → Type 0) (L : Format V) (greatest : ℕ) where
    -- at most n items at the front of the bytes, one after another, and what they gather to
    pub record GotUntilEnd (whole : F) (old new : ReaderState) : Type 0 where
      pub items : List T
      pub at_most : length items ≤ greatest
      pub gathered : gathers items whole
      pub begin : Begin L (map seen items) old
      pub ended : Ended L begin.rest old new
      -- nothing in front of the rest is still there
      pub taken : IsTrue old.fixed.tells → (lost : List ℕ) × (begin.rest ≡ lost ++ new.remaining)

    -- A read of items until the bytes end, of at most n. What is answered is gathered of all items in front of
    -- the end.
    pub record ReadsUntilEnd (result : Result F E) (old new : ReaderState) : Type 0 where
      pub kept : Kept old new
      pub answer : MatchResult result (λ whole. GotUntilEnd whole old new)
          (λ e. RefusesUntilEnd seen L greatest e old new)

  module _ {T F V : Type 0} (seen : T → V) (gathers : List T → F → Type 0) (L : Format V) where
    -- a read until the end, in which no call of the device failed, from a reader that tells its bytes
    pub record CleanUntilEnd (greatest : ℕ) (result : Result F E) (old new : ReaderState) : Type 0 where
      pub read : ReadsUntilEnd seen gathers L greatest result old new
      pub told : IsTold L old
      pub clean : HasGrown old.faults new.faults → ⊥

-- ---- the words of contracts

module _ {E : Type 0} (errors : Errors E) where
  module _ {S : Type 0} (state : S → ReaderState) where
    -- a read of a codec's values until the bytes end, of at most n, from a reader that reads see so
    abbrev pub ReadsValuesUntilEnd : {T F V : Type 0} → (T → V) → (List T → F → Type 0) → Codec V → ℕ
        → Result F E → S → S → Type 0
    ReadsValuesUntilEnd seen gathers codec greatest result old new =
        let format = codec.format (state old).mode in
        ReadsUntilEnd errors.from_gives errors.eof seen gathers format greatest result (state old) (state new)

    -- a read of a value, or nothing where the bytes end before it
    abbrev pub ReadsUnlessEnd : {A V : Type 0} → (A → V) → Codec V → Result (Option A) E → S → S → Type 0
    ReadsUnlessEnd {A = A} seen codec result old new =
        let refused : E → Result A E = λ e. Err e in
        let read : A → Result A E = λ x. Ok x in
        MatchResult result
        (λ next. MatchOption next
        ((e : E) × IsTrue (errors.eof e) × ReadsValue errors state seen codec (refused e) old new)
        (λ x. ReadsValue errors state seen codec (read x) old new))
        (λ e. (errors.eof e ≡ false) × ReadsValue errors state seen codec (refused e) old new)

  -- What a clean read until the end answers is decided by the bytes. It may want memory in place of any other answer.
  pub record UntilEndIsDecided {T F V : Type 0} (seen : T → V) (gathers : List T → F → Type 0)
      (format : Mode → Format V) : Type 0 where
    -- at most `greatest` values and then some first bytes of one, or none: the values
    pub cut : {mode : Mode} (vs : List V) (v : V) (bytes prefix more : List ℕ) {greatest : ℕ}
        {result : Result F E} {old new : ReaderState}
        → Each (format mode).encodes vs bytes → (format mode).encodes v (prefix ++ more) → more ≢ []
        → length vs ≤ greatest
        → old.remaining ≡ bytes ++ prefix
        → CleanUntilEnd errors.from_gives errors.eof seen gathers (format mode) greatest result old new
        → MatchResult result (λ whole. (items : List T) × (map seen items ≡ vs) × gathers items whole)
        (errors.from_gives (error_of kinds.OutOfMemory))
    -- more than `greatest` values: a refusal
    pub too_many : {mode : Mode} (vs : List V) (bytes rest : List ℕ) {greatest : ℕ} {result : Result F E}
        {old new : ReaderState}
        → Each (format mode).encodes vs bytes → greatest < length vs
        → old.remaining ≡ bytes ++ rest
        → CleanUntilEnd errors.from_gives errors.eof seen gathers (format mode) greatest result old new
        → MatchResult result (λ _. ⊥)
        (λ e. errors.from_gives (error_of kinds.OutOfRangeLength) e ⊎ errors.from_gives (error_of kinds.OutOfMemory) e)
    -- at most `greatest` values and then what the type refuses: a refusal that it names
    pub at_fault : {mode : Mode} (vs : List V) (bytes rest : List ℕ) {greatest : ℕ} {result : Result F E}
        {old new : ReaderState}
        → Each (format mode).encodes vs bytes → (format mode).malformed rest → length vs ≤ greatest
        → old.remaining ≡ bytes ++ rest
        → CleanUntilEnd errors.from_gives errors.eof seen gathers (format mode) greatest result old new
        → MatchResult result (λ _. ⊥)
        (λ e. IsNamed errors.from_gives (format mode).names e ⊎ errors.from_gives (error_of kinds.OutOfMemory) e)

-- what is answered stands at the front of bytes in memory
pub prefix_until_end : {E T F V : Type 0} {gives : Error → E → Type 0} {eof : E → Bool} {seen : T → V}
    (shown : F → List T) {L : Format V} {greatest : ℕ} {result : Result F E} {old new : ReaderState} {bytes : List ℕ}
    → IsTrue old.fixed.tells → old.remaining ≡ bytes
    → ReadsUntilEnd gives eof seen (λ items whole. shown whole ≡ items) L greatest result old new
    → IfOk result (λ whole. (prefix : List ℕ) × (rest : List ℕ) × Each L.encodes (map seen (shown whole)) prefix
    × (bytes ≡ prefix ++ rest))
prefix_until_end {seen = seen} shown {L = L} {result = Ok whole} tells is r =
    let got = r.answer in (
      got.begin.prefix,
      got.begin.rest,
      subst (λ (items : List _). Each L.encodes (map seen items) got.begin.prefix) (sym got.gathered)
          got.begin.prefix_is,
      sym is ∙ got.begin.stands tells,
    )
prefix_until_end shown {result = Err e} tells is r = tt
