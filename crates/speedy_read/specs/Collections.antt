-- Reads of items that gather to a collection.
use Rattle.std.specs.Prelude.{◌≡◌, ℕ, ◌≤◌, List, length, map, Bool, true, IsTrue, ◌⊎◌, Result, MatchResult}
use Rattle.speedy_base.specs.declared.error.ErrorKind.TheVariants as kinds
use Rattle.speedy_base.specs.declared.error.Error.{Error}
use Rattle.speedy_base.specs.Error.{error_of, Errors}
use Rattle.speedy_layout.specs.Codecs.{Codec}
use Rattle.speedy_layout.specs.Format.{Format, Each}
use Rattle.speedy_layout.specs.Lists.{vector}
use Rattle.speedy_read.specs.Reading.{ReaderState, Kept, Got, Ahead, Excused, Refused}

-- items of a type, what is seen of each, what they gather to, and the lists of them that are written of what they
-- gather to
pub record Gatherer (T F V : Type 0) : Type 1 where
  pub seen : T → V
  pub gathers : List T → F → Type 0
  pub are_written : List T → Type 0

abbrev pub gatherer : {T F V : Type 0} → (T → V) → (List T → F → Type 0) → (List T → Type 0) → Gatherer T F V
gatherer seen gathers are_written = record { seen = seen; gathers = gathers; are_written = are_written }

module _ {T F V : Type 0} (g : Gatherer T F V) (L : Format V) (n : ℕ) where
  -- n items, one after another, which gather to the collection, and are written of it if that is demanded
  pub record GotItems (whole : F) (old new : ReaderState) : Type 0 where
    pub items : List T
    pub count_is : length items ≡ n
    pub got : Got (Each L.encodes (map g.seen items)) old new
    pub gathered : g.gathers items whole
    pub written : IsTrue old.mode.strict → g.are_written items

  -- the canonical encoding is demanded, and items stand at the front that are written of no collection
  pub record NotWritten (old new : ReaderState) : Type 0 where
    pub items : List T
    pub whole : F
    pub demanded : IsTrue old.mode.strict
    pub at_most : length items ≤ n
    pub ahead : Ahead (Each L.encodes (map g.seen items)) old new
    pub gathered : g.gathers items whole
    pub not_written : g.are_written items → ⊥

  -- A read of n items and what they gather to. What is answered is gathered of items that a prefix of the
  -- remaining bytes encodes, and just that prefix is taken. A clean refusal means that no prefix encodes n
  -- items, or none that are written of a collection where that is demanded.
  pub record Collects {E : Type 0} (gives : Error → E → Type 0) (eof : E → Bool) (result : Result F E)
      (old new : ReaderState) : Type 0 where
    pub kept : Kept old new
    pub answer : MatchResult result (λ whole. GotItems whole old new)
        (λ e. Excused gives true e old new
        ⊎ (Refused gives eof (vector n L) e old new ⊎ (gives (error_of kinds.NotWrittenForm) e × NotWritten old new)))

-- the word of contracts: a read of n of a codec's values and what they gather to, from a reader that reads see so
abbrev pub CollectsValues : {E S T F V : Type 0} → Errors E → (S → ReaderState) → Gatherer T F V → Codec V → ℕ
    → Result F E → S → S → Type 0
CollectsValues errors state g codec n result old new =
    let format = codec.format (state old).mode in
    Collects g format n errors.from_gives errors.eof result (state old) (state new)
