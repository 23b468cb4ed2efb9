-- What sources and sinks of bytes do in one call.
use Rattle.std.specs.Prelude.{◌≡◌, ℕ, ◌<◌, ◌≤◌, Bool, List, [], ◌++◌, length, take, IsTrue, Result, IfOk, OnOk, IfErr}
use Rattle.std.specs.Prelude.{OnErr, Option, MatchOption}
use Rattle.std.specs.declared.io.Error.{Error as StdIoError}
use Rattle.speedy_base.specs.declared.device.Faults.{Faults}
use Rattle.speedy_base.specs.FailedCalls.{OneFailed}

-- a source: whether it tells which bytes it will give, those bytes where it does, and its failed calls
pub record SourceState : Type 0 where
  pub tells : Bool
  pub remaining : List ℕ
  pub faults : Faults

-- a sink: whether it tells which bytes it took, those bytes where it does, its failed calls, and whether all that it
-- took was passed on
pub record SinkState : Type 0 where
  pub tells : Bool
  pub taken : List ℕ
  pub faults : Faults
  pub settled : Bool

-- what each call of a device keeps: what tells its bytes goes on doing so, and no failed call is
-- forgotten
pub record DeviceKept (old_tells new_tells : Bool) (old_faults new_faults : Faults) : Type 0 where
  pub tells : new_tells ≡ old_tells
  pub faults : old_faults.count ≤ new_faults.count

-- the same of a source
abbrev pub SourceKept : SourceState → SourceState → Type 0
SourceKept old new = DeviceKept old.tells new.tells old.faults new.faults

-- and of a sink
abbrev pub SinkKept : SinkState → SinkState → Type 0
SinkKept old new = DeviceKept old.tells new.tells old.faults new.faults

-- the source tells its bytes, and at least n remain
abbrev pub SourceHolds : SourceState → ℕ → Type 0
SourceHolds source size = IsTrue source.tells × (size ≤ length source.remaining)

-- one call of `pull`, which left this output
pub record Pulls (result : Result ℕ StdIoError) (old new : SourceState) (output : List ℕ) : Type 0 where
  pub kept : SourceKept old new
  -- `Ok(n)` is a count of bytes of the output
  pub within : IfOk result (λ n. n ≤ length output)
  -- what succeeds is no failed call
  pub no_fault : OnOk result (new.faults ≡ old.faults)
  -- the first n remaining bytes are at the front of the output, and the others are still there
  pub moved : IfOk result (λ n. IsTrue old.tells → old.remaining ≡ take n output ++ new.remaining)
  -- none are given only where none remain, or where there is no room
  pub ends : IfOk result (λ n. IsTrue old.tells → n ≡ 0 → 0 < length output → old.remaining ≡ [])
  -- what fails is counted, and its error is kept as the last
  pub fault : IfErr result (λ error. OneFailed error old.faults new.faults)
  -- and takes none of the remaining bytes
  pub unmoved : OnErr result (IsTrue old.tells → new.remaining ≡ old.remaining)

-- bytes that a source lends, and has given: the next n of those that remain
pub record GivesLent (n : ℕ) (bytes : List ℕ) (old new : SourceState) : Type 0 where
  pub kept : SourceKept old new
  pub count : length bytes ≡ n
  pub no_fault : new.faults ≡ old.faults
  pub moved : IsTrue old.tells → old.remaining ≡ bytes ++ new.remaining
  -- to give no byte is to do nothing
  pub untouched : bytes ≡ [] → new ≡ old

-- one call of `pull_lent` for n bytes: it lends them, or lends nothing and stays as it was
abbrev pub PullsLent : {A : Type 0} → (A → List ℕ) → ℕ → Option A → SourceState → SourceState → Type 0
PullsLent shows n lent old new = MatchOption lent (new ≡ old) (λ bytes. GivesLent n (shows bytes) old new)

-- one call of `push` with these bytes
pub record Pushes (result : Result ℕ StdIoError) (old new : SinkState) (bytes : List ℕ) : Type 0 where
  pub kept : SinkKept old new
  -- `Ok(n)` is a count of these bytes
  pub within : IfOk result (λ n. n ≤ length bytes)
  -- to take none of some bytes is a failure
  pub takes_some : IfOk result (λ n. 0 < length bytes → 0 < n)
  -- what succeeds is no failed call
  pub no_fault : OnOk result (new.faults ≡ old.faults)
  -- the first n bytes were taken, after those that were taken before
  pub moved : IfOk result (λ n. IsTrue old.tells → new.taken ≡ old.taken ++ take n bytes)
  -- what fails is counted, and its error is kept as the last
  pub fault : IfErr result (λ error. OneFailed error old.faults new.faults)
  -- and takes no byte
  pub unmoved : OnErr result (IsTrue old.tells → new.taken ≡ old.taken)
  -- what waited before goes on waiting: to pass it on is what a flush is for
  pub waits : IsTrue new.settled → IsTrue old.settled

-- one call of `flush`
pub record Flushes {T : Type 0} (result : Result T StdIoError) (old new : SinkState) : Type 0 where
  pub kept : SinkKept old new
  -- a flush takes no byte
  pub same_taken : new.taken ≡ old.taken
  -- what succeeds is no failed call
  pub no_fault : OnOk result (new.faults ≡ old.faults)
  -- what fails is counted, and its error is kept as the last
  pub fault : IfErr result (λ error. OneFailed error old.faults new.faults)
  -- what succeeds leaves nothing that was taken waiting
  pub settles : OnOk result (IsTrue new.settled)
