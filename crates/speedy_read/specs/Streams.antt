-- What is done with a source of bytes.
use Rattle.std.specs.Prelude.{◌≡◌, ℕ, ◌≤◌, ◌<◌, max, List, [], ◌++◌, length, Bool, false, IsTrue, ◌⊎◌, Result, IsOk}
use Rattle.std.specs.Prelude.{IfOk, OnOk, IfErr, OnErr}
use Rattle.std.specs.declared.io.Error.{Error as StdIoError}
use Rattle.speedy_base.specs.Device.{SourceState, SourceKept}
use Rattle.speedy_base.specs.FailedCalls.{OneFailed, IsOfFailedCall}
use Rattle.speedy_base.specs.Ring.{Ring}
use Rattle.speedy_base.specs.declared.error.Error.{Error}
use Rattle.speedy_layout.specs.Texts.{raw_bytes}
use Rattle.speedy_read.specs.Reading.{ReaderState, KeptByPeek, Refused}

-- what remains of a source is a tail of what remained
abbrev pub LeavesTail : SourceState → SourceState → Type 0
LeavesTail old new = IsTrue old.tells → (prefix : List ℕ) × (old.remaining ≡ prefix ++ new.remaining)

-- Pulling until a list is full of what a source gives, and whether it is.
pub record FillsList (output : List ℕ) (result : Result Bool StdIoError) (old new : SourceState) : Type 0 where
  pub kept : SourceKept old new
  pub no_fault : OnOk result (new.faults ≡ old.faults)
  pub tail : LeavesTail old new
  pub full : IfOk result (λ full. IsTrue full → IsTrue old.tells → old.remaining ≡ output ++ new.remaining)
  -- it is not where the source ended before
  pub ended : IfOk result (λ full. full ≡ false → IsTrue old.tells → length old.remaining < length output)
  -- the first call that fails is the last one
  pub fault : IfErr result (λ error. OneFailed error old.faults new.faults)

-- Pulling until a ring holds n bytes, and whether it does. What was pulled lies behind what the ring held.
pub record FillsRing (count : ℕ) (ahead : Bool) (result : Result Bool StdIoError) (held keeps : Ring)
    (old new : SourceState) : Type 0 where
  pub kept : SourceKept old new
  pub no_fault : OnOk result (new.faults ≡ old.faults)
  pub capacity : keeps.capacity ≡ held.capacity
  pub moved : IsTrue old.tells → keeps.bytes ++ new.remaining ≡ held.bytes ++ old.remaining
  -- nothing is pulled where it holds enough already
  pub untouched : count ≤ length held.bytes → IsOk result × (keeps ≡ held) × (new ≡ old)
  -- no more is pulled than lacks, unless it is ahead
  pub exact : ahead ≡ false → length keeps.bytes ≤ max (length held.bytes) count
  pub enough : IfOk result
      (λ enough. IsTrue enough → (count ≤ length keeps.bytes) × (length keeps.bytes ≤ keeps.capacity))
  -- it does not where the source ended before
  pub short : IfOk result (λ enough. enough ≡ false → length keeps.bytes < count)
  pub ended : IfOk result (λ enough. enough ≡ false → IsTrue old.tells → new.remaining ≡ [])
  -- the first call that fails is the last one
  pub fault : IfErr result (λ error. (length keeps.bytes < count) × OneFailed error old.faults new.faults)

module _ {E : Type 0} (gives : Error → E → Type 0) (eof : E → Bool) where
  -- Filling the ring of a reader until it holds n bytes. Nothing is taken. It is refused by a failed call, as
  -- what that answered, or where fewer bytes remain.
  pub record FillsUpTo {A : Type 0} (count : ℕ) (result : Result A E) (held keeps : Ring)
      (old new : ReaderState) : Type 0 where
    pub kept : KeptByPeek old new
    pub capacity : keeps.capacity ≡ held.capacity
    pub untouched : count ≤ length held.bytes → IsOk result × (new ≡ old)
    pub exact : old.fixed.buffers ≡ false → length keeps.bytes ≤ max (length held.bytes) count
    pub enough : OnOk result ((count ≤ length keeps.bytes) × (length keeps.bytes ≤ keeps.capacity))
    pub no_fault : OnOk result (new.faults ≡ old.faults)
    pub short : OnErr result (length keeps.bytes < count)
    pub why : IfErr result
        (λ e. IsOfFailedCall gives e old.faults new.faults ⊎ Refused gives eof (raw_bytes count) e old new)
