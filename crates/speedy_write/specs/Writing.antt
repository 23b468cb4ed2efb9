-- What a write does.
use Rattle.std.specs.Prelude.{◌≡◌, ◌≢◌, ℕ, ℤ, ◌-◌, ◌≤◌, List, ◌++◌, length, map, Bool, IsTrue, ◌⊎◌, ◌↔◌, Option, Some}
use Rattle.std.specs.Prelude.{None, MatchOption, Result, MatchResult, IfErr}
use Rattle.std.specs.Borrow.{GName}
use Rattle.std.specs.Int.{Width}
use Rattle.speedy_base.specs.declared.error.ErrorKind.{ErrorKind}
use Rattle.speedy_base.specs.declared.error.ErrorKind.TheVariants as kinds
use Rattle.speedy_base.specs.declared.device.Faults.{Faults}
use Rattle.speedy_base.specs.declared.error.Error.{Error}
use Rattle.speedy_base.specs.Error.{error_of, IsNamed}
use Rattle.speedy_base.specs.FailedCalls.{IsOfFault}
use Rattle.speedy_base.specs.Mode.{Mode}
use Rattle.speedy_layout.specs.Codecs.{Codec, unsigned_codec, signed_codec}
use Rattle.speedy_layout.specs.Format.{Format, plain_format}
use Rattle.speedy_layout.specs.Lists.{repeat}

-- What the kind of a writer fixes.
pub record WriterKind : Type 0 where
  -- its device tells which bytes were written
  pub tells : Bool
  -- a refusal that a failed call of its device caused says what that call answered
  pub tells_faults : Bool
  -- the kind that a write past the space is refused with
  pub full : ErrorKind
  -- the `&mut`s that it holds
  pub targets : List GName

-- A writer, as writes see it.
pub record WriterState : Type 0 where
  pub fixed : WriterKind
  -- what its context asks of the bytes
  pub mode : Mode
  -- its device's failed calls
  pub faults : Faults
  -- how many more bytes fit, where there is a bound
  pub space : Option ℕ
  -- whether all that its device took was passed on
  pub settled : Bool

-- n bytes fit
abbrev pub Fits : ℕ → Option ℕ → Type 0
Fits n None = Unit {0}
Fits n (Some space) = n ≤ space

-- what is left of the space after n bytes
abbrev pub less : Option ℕ → ℕ → Option ℕ
less None n = None
less (Some space) n = Some (space - n)

-- what every write keeps, a refused one too
pub record Kept (old new : WriterState) : Type 0 where
  pub fixed : new.fixed ≡ old.fixed
  pub mode : new.mode ≡ old.mode
  pub faults : old.faults.count ≤ new.faults.count
  -- what waited goes on waiting: a write makes no flush
  pub waits : IsTrue new.settled → IsTrue old.settled

-- a canonical encoding was put, just it was appended, and no call of the device failed
pub record Put (writes : List ℕ → Type 0) (old new : WriterState) (appended : List ℕ → Type 0) : Type 0 where
  pub bytes : List ℕ
  pub is_written : writes bytes
  pub is_appended : appended bytes
  pub fits : Fits (length bytes) old.space
  pub space : new.space ≡ less old.space (length bytes)
  pub no_fault : new.faults ≡ old.faults

-- a beginning of a canonical encoding was appended
pub record Begun (writes : List ℕ → Type 0) (appended : List ℕ → Type 0) : Type 0 where
  pub prefix : List ℕ
  pub rest : List ℕ
  pub is_written : writes (prefix ++ rest)
  pub is_appended : appended prefix

-- the bytes and nothing else
abbrev pub Just : List ℕ → List ℕ → Type 0
Just bytes b = b ≡ bytes

module _ {E : Type 0} (gives : Error → E → Type 0) where
  -- the refusal of a value that has no canonical encoding, or none of so few bytes that they can be counted
  abbrev pub IsOutOfRange : (ErrorKind → Type 0) → E → Type 0
  IsOutOfRange names e = gives (error_of kinds.OutOfRangeLength) e ⊎ IsNamed gives names e

  -- why a write was refused though no call of the device failed: no canonical encoding fits
  pub record Unwritten {V : Type 0} (F : Format V) (v : V) (e : E) (old new : WriterState) : Type 0 where
    pub no_fault : new.faults ≡ old.faults
    pub no_fit : (b : List ℕ) → F.writes v b → Fits (length b) old.space → ⊥
    -- without a bound there is no encoding at all
    pub no_encoding : old.space ≡ None → (b : List ℕ) → F.encodes v b → ⊥
    pub kind : ((old.space ≢ None) × gives (error_of old.fixed.full) e) ⊎ IsOutOfRange F.refuses_writing e

  -- a refusal
  pub record Refused {V : Type 0} (F : Format V) (v : V) (e : E) (old new : WriterState)
      (appended : List ℕ → Type 0) : Type 0 where
    pub beginning : (b : List ℕ) → F.writes v b → Begun (F.writes v) appended
    -- and of a value that has no encoding some bytes: what was there before stays
    pub appends : (b : List ℕ) × appended b
    -- a call of the device failed, and where the writer tells which, one alone did, and the refusal is its error; or no
    -- call failed
    pub because : IsOfFault gives old.fixed.tells_faults e old.faults new.faults ⊎ Unwritten F v e old new

  -- The write of a value, in the format under the writer's mode. What succeeds appends a canonical encoding that fits,
  -- and no call of the device failed. What is refused appends a beginning of one, where there is one; and either a
  -- call of the device failed, and this is its error where the writer tells it, or none failed and no canonical
  -- encoding fits.
  pub record Writes {V : Type 0} (F : Mode → Format V) (v : V) (result : Result (Unit {0}) E)
      (old new : WriterState) (appended : List ℕ → Type 0) : Type 0 where
    pub kept : Kept old new
    pub answer : MatchResult result (λ _. Put ((F old.mode).writes v) old new appended)
        (λ e. Refused (F old.mode) v e old new appended)

  -- the write of items, seen as values of a format, one after the other
  abbrev pub WritesEach : {A V : Type 0} → (Mode → Format V) → (A → V) → List A → Result (Unit {0}) E
      → WriterState → WriterState
      → (List ℕ → Type 0) → Type 0
  WritesEach F seen items = Writes (λ mode. repeat (length items) (F mode)) (map seen items)

  -- the write of these bytes
  abbrev pub WritesBytes : List ℕ → Result (Unit {0}) E → WriterState → WriterState → (List ℕ → Type 0) → Type 0
  WritesBytes = Writes (λ _. plain_format Just)

-- what a writer says of its space is right
abbrev pub IsRight : Option Bool → ℕ → Option ℕ → Type 0
IsRight answer n space = (b : Bool) → answer ≡ Some b → IsTrue b ↔ Fits n space

-- ---- the words of contracts

-- They take which errors become those of the context, `C.Error.from_gives`, how writes see a writer, `W.state`, which
-- bytes lie between two states, `W.appends`, and last the writer before and behind.
module _ {E S : Type 0} (gives : Error → E → Type 0) (state : S → WriterState) where
  -- a write of bytes that is refused though no call of the device failed has passed the space
  abbrev pub RefusesFull : Result (Unit {0}) E → S → S → Type 0
  RefusesFull result old new =
      IfErr result (λ e. IsOfFault gives (state old).fixed.tells_faults e (state old).faults (state new).faults
      ⊎ (((state new).faults ≡ (state old).faults) × gives (error_of (state old).fixed.full) e))

  module _ (appends : S → List ℕ → S → Type 0) where
    -- the write of a value of a format, and of a codec
    abbrev pub WritesAs : {A V : Type 0} → (A → V) → (Mode → Format V) → A → Result (Unit {0}) E → S → S → Type 0
    WritesAs seen format value result old new =
        Writes gives format (seen value) result (state old) (state new) (λ b. appends old b new)

    abbrev pub WritesValue : {A V : Type 0} → (A → V) → Codec V → A → Result (Unit {0}) E → S → S → Type 0
    WritesValue seen codec = WritesAs seen codec.format

    -- the write of values, one after the other
    abbrev pub WritesValues : {A V : Type 0} → (A → V) → Codec V → List A → Result (Unit {0}) E → S → S → Type 0
    WritesValues seen codec values result old new =
        WritesEach gives codec.format seen values result (state old) (state new) (λ b. appends old b new)

    -- the write of values where there is an answer; where there is none, the writer is as it was
    abbrev pub WritesIfSome : {A V : Type 0} → (A → V) → Codec V → List A → Option (Result (Unit {0}) E) → S → S
        → Type 0
    WritesIfSome seen codec values answer old new =
        MatchOption answer (new ≡ old) (λ result. WritesValues seen codec values result old new)

    -- the write of these bytes
    abbrev pub WritesSlice : List ℕ → Result (Unit {0}) E → S → S → Type 0
    WritesSlice bytes result old new =
        WritesBytes gives bytes result (state old) (state new) (λ b. appends old b new)

    -- the write of a value whose bytes go to the writer together
    pub record WritesAtOnce {A V : Type 0} (seen : A → V) (codec : Codec V) (value : A) (result : Result (Unit {0}) E)
        (old new : S) : Type 0 where
      pub writes : WritesValue seen codec value result old new
      pub full : RefusesFull result old new

    -- the write of a number of n bytes, and of a signed one of a width
    abbrev pub WritesNumber : ℕ → ℕ → Result (Unit {0}) E → S → S → Type 0
    WritesNumber width = WritesAtOnce (λ n. n) (unsigned_codec width)

    abbrev pub WritesSigned : Width → ℤ → Result (Unit {0}) E → S → S → Type 0
    WritesSigned w = WritesAtOnce (λ z. z) (signed_codec w)

    -- What a writer answers that counts bytes and keeps none: as it would the write of any `size` bytes. Or it
    -- answers nothing, and stays as it was.
    abbrev pub CountsBytes : ℕ → Option (Result (Unit {0}) E) → S → S → Type 0
    CountsBytes size counted old new =
        MatchOption counted (new ≡ old)
        (λ result. (bytes : List ℕ) → length bytes ≡ size → WritesSlice bytes result old new)
