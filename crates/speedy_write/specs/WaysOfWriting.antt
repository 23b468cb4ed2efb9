-- What the ways of writing answer.
use Rattle.std.specs.Prelude.{◌≡◌, ℕ, ◌-◌, ◌^◌, ◌<◌, ◌≤◌, List, ◌++◌, length, drop, ◌⊎◌, Result, IsOk, IfOk, OnOk}
use Rattle.std.specs.Prelude.{OnErr, IfErr, IsOkAnd, IsErrAnd, IsTrue}
use Rattle.std.specs.declared.io.Error.{Error as StdIoError}
use Rattle.speedy_base.specs.declared.error.ErrorKind.TheVariants as kinds
use Rattle.speedy_base.specs.declared.error.Error.{Error}
use Rattle.speedy_base.specs.Mode.{Mode}
use Rattle.speedy_base.specs.Error.{error_of}
use Rattle.speedy_base.specs.Device.{SinkState, SinkKept}
use Rattle.speedy_base.specs.FailedCalls.{HasGrown, IsErrorOf, IsOfFailedCall}
use Rattle.speedy_layout.specs.Codecs.{Codec}
use Rattle.speedy_layout.specs.Format.{Format}
use Rattle.speedy_write.specs.Collectors.{SinkTakes}
use Rattle.speedy_write.specs.Writing.{IsOutOfRange, Begun}

-- the bytes are a canonical encoding of the value, and no encoding of it is shorter
pub record IsShortest {V : Type 0} (L : Format V) (v : V) (bytes : List ℕ) : Type 0 where
  pub is_written : L.writes v bytes
  pub shortest : (others : List ℕ) → L.encodes v others → length bytes ≤ length others

-- a shortest canonical encoding stands at the buffer's front, and what lies past it is as it was
pub record Stands {V : Type 0} (L : Format V) (v : V) (old new : List ℕ) : Type 0 where
  pub bytes : List ℕ
  pub is_shortest : IsShortest L v bytes
  pub new_is : new ≡ bytes ++ drop (length bytes) old

module _ {E : Type 0} (gives : Error → E → Type 0) where
  -- a value whose canonical encoding has `usize::MAX` bytes or more is refused as out of range, and in no other way
  abbrev pub RefusesTooLong : {V A : Type 0} → Format V → V → Result A E → Type 0
  RefusesTooLong L v result =
      (bytes : List ℕ) → L.writes v bytes → 2 ^ 64 - 1 ≤ length bytes
      → IsErrAnd result (gives (error_of kinds.OutOfRangeLength))

  -- what `bytes_needed` answers
  pub record NeedsIn {V : Type 0} (L : Format V) (v : V) (result : Result ℕ E) : Type 0 where
    -- a number that is answered is the length of a canonical encoding
    pub written : IfOk result (λ n. (bytes : List ℕ) × L.writes v bytes × (n ≡ length bytes))
    -- the length of a canonical encoding is answered, if it is below `usize::MAX`
    pub answers : (bytes : List ℕ) → L.writes v bytes → length bytes < 2 ^ 64 - 1
        → IsOkAnd result (λ n. n ≡ length bytes)
    -- and is refused from there on
    pub too_long : RefusesTooLong L v result
    -- a kind that the type names for writing is left to values without a canonical encoding
    pub refused : IfErr result (IsOutOfRange gives L.refuses_writing)

  -- a buffer of this size is refused, and n bytes were needed
  abbrev pub IsTooSmall : ℕ → ℕ → E → Type 0
  IsTooSmall actual expected e = gives (error_of (kinds.OutputBufferIsTooSmall actual expected)) e

  -- what the ways of writing to a buffer do
  pub record WritesToBufferIn {V : Type 0} (L : Format V) (v : V) (result : Result (Unit {0}) E)
      (old new : List ℕ) : Type 0 where
    pub written : OnOk result (Stands L v old new)
    -- a value whose canonical encoding fits is never refused
    pub fits : (bytes : List ℕ) → L.writes v bytes → length bytes < 2 ^ 64 - 1 → length bytes ≤ length old → IsOk result
    -- a shorter buffer is refused, with both sizes
    pub too_small : (bytes : List ℕ) → L.writes v bytes → length bytes < 2 ^ 64 - 1 → length old < length bytes
        → IsErrAnd result (IsTooSmall (length old) (length bytes))
    pub too_long : RefusesTooLong L v result
    -- there is no other refusal than these and that of a value that cannot be written
    pub refused : IfErr result
        (λ e. ((bytes : List ℕ) × L.writes v bytes × (length old < length bytes)
        × IsTooSmall (length old) (length bytes) e) ⊎ IsOutOfRange gives L.refuses_writing e)
    -- what is refused leaves the buffer as it was
    pub unchanged : OnErr result (new ≡ old)

  -- what the ways of writing to a vector answer
  pub record WritesToVecIn {V A : Type 0} (L : Format V) (v : V) (items : A → List ℕ)
      (result : Result A E) : Type 0 where
    pub written : IfOk result (λ vec. IsShortest L v (items vec))
    pub too_long : RefusesTooLong L v result
    -- a refusal means want of memory, or that the value has no encoding that can be counted
    pub refused : IfErr result (λ e. gives (error_of kinds.OutOfMemory) e
        ⊎ (((bytes : List ℕ) → L.encodes v bytes → length bytes < 2 ^ 64 - 1 → ⊥)
        × IsOutOfRange gives L.refuses_writing e))

  -- the refusal of a value that has no encoding
  pub record RefusesUndecodable {V : Type 0} (L : Format V) (v : V) (e : E) : Type 0 where
    pub no_encoding : (bytes : List ℕ) → L.encodes v bytes → ⊥
    pub kind : IsOutOfRange gives L.refuses_writing e

  -- what the ways of writing to a sink do
  pub record WritesToStreamIn {V : Type 0} (L : Format V) (v : V) (result : Result (Unit {0}) E)
      (old new : SinkState) : Type 0 where
    pub kept : SinkKept old new
    -- what waited in the sink goes on waiting: no flush is made
    pub no_flush : IsTrue new.settled → IsTrue old.settled
    -- what succeeds had no failed push
    pub no_fault : OnOk result (new.faults ≡ old.faults)
    -- and the sink took a shortest canonical encoding
    pub written : OnOk result ((bytes : List ℕ) × IsShortest L v bytes × SinkTakes old bytes new)
    -- a value that has an encoding is never refused where no push fails
    pub succeeds : (bytes : List ℕ) → L.encodes v bytes → (HasGrown old.faults new.faults → ⊥) → IsOk result
    -- a refusal is the error of the one push that failed; or none failed, and the value has no encoding
    pub refused : IfErr result
        (λ e. IsOfFailedCall gives e old.faults new.faults ⊎ ((new.faults ≡ old.faults) × RefusesUndecodable L v e))
    -- what is refused leaves a beginning of a canonical encoding in the sink, where there is one
    pub begun : OnErr result ((bytes : List ℕ) → L.writes v bytes
        → Begun (L.writes v) (λ prefix. SinkTakes old prefix new))
    -- and of a value that has none some bytes, behind what the sink took before
    pub behind : OnErr result ((bytes : List ℕ) × SinkTakes old bytes new)

  -- what a write to a sink and a flush behind it do: the write with what waits left out of sight, and where both
  -- succeed nothing waits
  abbrev pub WritesAndFlushesIn : {V : Type 0} → Format V → V → Result (Unit {0}) E → SinkState → SinkState → Type 0
  WritesAndFlushesIn L v result old new =
      WritesToStreamIn L v result old (record new { settled = old.settled }) × OnOk result (IsTrue new.settled)

  -- What the ways of writing to a file answer. No contract sees a file: which bytes it took, whether it was flushed,
  -- which of its calls failed. So this speaks of the value and the error alone; what the same code does to a caller's
  -- sink, `WritesAndFlushes` says.
  pub record WritesToFileIn {V : Type 0} (L : Format V) (v : V) (result : Result (Unit {0}) E) : Type 0 where
    -- what succeeds has a shortest canonical encoding
    pub written : OnOk result ((bytes : List ℕ) × IsShortest L v bytes)
    -- a refusal is what the error of some call became, or the value has no encoding
    pub refused : IfErr result (λ e. ((error : StdIoError) × IsErrorOf gives error e) ⊎ RefusesUndecodable L v e)

-- ---- the words of contracts

-- They take which errors become those of the context, `C.Error.from_gives`, and the mode that the context asks.
module _ {E A V : Type 0} (gives : Error → E → Type 0) where
  -- the number of bytes
  abbrev pub Needs : (A → V) → Codec V → Mode → A → Result ℕ E → Type 0
  Needs seen codec mode value = NeedsIn gives (codec.format mode) (seen value)

  -- to a buffer, before and behind
  abbrev pub WritesToBuffer : (A → V) → Codec V → Mode → A → Result (Unit {0}) E → List ℕ → List ℕ → Type 0
  WritesToBuffer seen codec mode value = WritesToBufferIn gives (codec.format mode) (seen value)

  -- to a vector, whose items are these
  abbrev pub WritesToVec : {R : Type 0} → (A → V) → Codec V → Mode → A → (R → List ℕ) → Result R E → Type 0
  WritesToVec seen codec mode value = WritesToVecIn gives (codec.format mode) (seen value)

  -- to a file
  abbrev pub WritesToFile : (A → V) → Codec V → Mode → A → Result (Unit {0}) E → Type 0
  WritesToFile seen codec mode value = WritesToFileIn gives (codec.format mode) (seen value)

  module _ {S : Type 0} (sink : S → SinkState) where
    -- to a sink, which is seen so
    abbrev pub WritesToStream : (A → V) → Codec V → Mode → A → Result (Unit {0}) E → S → S → Type 0
    WritesToStream seen codec mode value result old new =
        WritesToStreamIn gives (codec.format mode) (seen value) result (sink old) (sink new)

    -- and a flush behind it
    abbrev pub WritesAndFlushes : (A → V) → Codec V → Mode → A → Result (Unit {0}) E → S → S → Type 0
    WritesAndFlushes seen codec mode value result old new =
        WritesAndFlushesIn gives (codec.format mode) (seen value) result (sink old) (sink new)
