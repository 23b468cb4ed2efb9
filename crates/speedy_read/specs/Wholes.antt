-- How values are read that have all of the bytes.
use Rattle.std.specs.Prelude.{◌≡◌, ℕ, List, length, Bool, false, IsTrue, ◌⊎◌, Result, MatchResult, refl}
use Rattle.std.specs.Borrow.{GName}
use Rattle.speedy_base.specs.declared.error.ErrorKind.TheVariants as kinds
use Rattle.speedy_base.specs.declared.error.Error.{Error}
use Rattle.speedy_base.specs.Error.{error_of, Errors, IsNamed}
use Rattle.speedy_base.specs.MemoryDevices.{no_faults}
use Rattle.speedy_base.specs.Mode.{Mode}
use Rattle.speedy_layout.specs.Format.{Format}
use Rattle.speedy_layout.specs.Laws.{Codec}
use Rattle.speedy_layout.specs.Wholes.{Misfits, WholeCodec}
use Rattle.speedy_read.specs.Buffers.{memory_state, held_state}
use Rattle.speedy_read.specs.Reading.{ReaderState, Kept, IsTold, refusing_kinds, IsEnd}

-- each value has so many bytes
abbrev pub HaveSize : {V : Type 0} → ℕ → Codec V → Type 0
HaveSize {V = V} size codec =
    (f : Mode) (v : V) (bytes : List ℕ) → (codec.format f).encodes v bytes → length bytes ≡ size

-- a reader of bytes that lie in memory: it asks for none, and no call of a device fails
pub record InMemory (state : ReaderState) : Type 0 where
  pub tells : IsTrue state.fixed.tells
  pub asks_no_memory : state.fixed.asks_memory ≡ false
  pub no_fault : state.faults ≡ no_faults

-- as readers of bytes do, and those that hold such a one
pub bytes_in_memory : {lends : Bool} {targets : List GName} {bytes : List ℕ} {mode : Mode}
    → InMemory (memory_state lends targets bytes mode)
bytes_in_memory = record { tells = refl; asks_no_memory = refl; no_fault = refl }

pub held_in_memory : {name : GName} {state : ReaderState} → InMemory state → InMemory (held_state name state)
held_in_memory h = record { tells = h.tells; asks_no_memory = h.asks_no_memory; no_fault = h.no_fault }

module _ {E : Type 0} (gives : Error → E → Type 0) (eof : E → Bool) where
  -- bytes that are not those of a value, all of them, were refused: as an end, as the type refuses them, or as a length
  -- that is out of range
  pub record NotWhole {V : Type 0} (F : Format V) (misfits : Misfits) (e : E) (old : ReaderState) : Type 0 where
    pub kind : IsEnd gives eof old.fixed.ends_by_device e
        ⊎ IsNamed gives (λ kind. refusing_kinds F old.fixed.lends kind ⊎ (kind ≡ kinds.OutOfRangeLength)) e
    pub because : IsTold F old → (v : V) → F.encodes v old.remaining → ⊥
    -- too many as a length, and too few as an end
    pub too_many : IsTold F old → misfits.too_many old.remaining → gives (error_of kinds.OutOfRangeLength) e
    pub too_few : IsTold F old → misfits.too_few old.remaining → IsTrue (eof e)

  -- A read of a value that has all remaining bytes. It answers the value that they encode, all of them, or wants memory
  -- for it, or they encode none.
  pub record ReadsWhole {A V : Type 0} (seen : A → V) (F : Format V) (misfits : Misfits) (result : Result A E)
      (old new : ReaderState) : Type 0 where
    pub kept : Kept old new
    pub answer : MatchResult result (λ x. F.encodes (seen x) old.remaining)
        (λ e. (gives (error_of kinds.OutOfMemory) e × IsTrue F.asks.memory) ⊎ NotWhole F misfits e old)

  -- why bytes of a buffer, all of them, are refused: as an end, as the type refuses them, or as a length that is out of
  -- range
  pub record RefusesWhole {V : Type 0} (F : Format V) (misfits : Misfits) (e : E) (bytes : List ℕ) : Type 0 where
    pub kind : IsEnd gives eof false e ⊎ IsNamed gives (λ kind. F.names kind ⊎ (kind ≡ kinds.OutOfRangeLength)) e
    pub no_value : (v : V) → F.encodes v bytes → ⊥
    -- too many as a length, and too few as an end
    pub too_many : misfits.too_many bytes → gives (error_of kinds.OutOfRangeLength) e
    pub too_few : misfits.too_few bytes → IsTrue (eof e)

-- ---- the words of contracts

module _ {E : Type 0} (errors : Errors E) where
  -- the read of a value of a codec that has all remaining bytes
  abbrev pub ReadsAll : {S A V : Type 0} → (S → ReaderState) → (A → V) → WholeCodec V → Result A E → S → S → Type 0
  ReadsAll state seen codec result old new =
      let mode = (state old).mode in
      ReadsWhole errors.from_gives errors.eof seen (codec.format mode) (codec.misfits mode) result (state old)
      (state new)

  -- What is answered of the bytes of a buffer: the value that they encode, all of them; else want of memory for it, or
  -- that they encode none.
  abbrev pub AnswersWhole : {A V : Type 0} → (A → V) → WholeCodec V → Mode → Result A E → List ℕ → Type 0
  AnswersWhole seen codec mode result bytes =
      let format = codec.format mode in
      MatchResult result (λ x. format.encodes (seen x) bytes)
      (λ e. (errors.from_gives (error_of kinds.OutOfMemory) e × IsTrue format.asks.memory)
      ⊎ RefusesWhole errors.from_gives errors.eof format (codec.misfits mode) e bytes)
