-- What the push of all of some bytes does.
use Rattle.std.specs.Prelude.{◌≡◌, ℕ, List, ◌++◌, Result, OnOk, OnErr, IfErr, IsTrue}
use Rattle.speedy_base.specs.declared.error.Error.{Error}
use Rattle.speedy_base.specs.Device.{SinkState, SinkKept}
use Rattle.speedy_base.specs.FailedCalls.{IsOfFailedCall}
use Rattle.speedy_write.specs.Collectors.{SinkTakes}

-- all of the bytes were pushed, or a beginning of them and then a push failed
pub record PushesAll {E : Type 0} (gives : Error → E → Type 0) (bytes : List ℕ) (result : Result (Unit {0}) E)
    (old new : SinkState) : Type 0 where
  pub kept : SinkKept old new
  -- what succeeds had no failed push
  pub no_fault : OnOk result (new.faults ≡ old.faults)
  pub all : OnOk result (SinkTakes old bytes new)
  pub partly : OnErr result ((prefix : List ℕ) × (rest : List ℕ) × (bytes ≡ prefix ++ rest) × SinkTakes old prefix new)
  -- one push failed, and its error is answered
  pub fault : IfErr result (λ e. IsOfFailedCall gives e old.faults new.faults)
  -- what waited goes on waiting
  pub waits : IsTrue new.settled → IsTrue old.settled
