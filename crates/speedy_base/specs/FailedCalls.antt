-- Failed calls of devices.
use Rattle.std.specs.Prelude.{◌≡◌, ℕ, ◌+◌, ◌-◌, ◌^◌, ◌<◌, ◌≤◌, ◌⊎◌, min, Bool, IsTrue, Some}
use Rattle.std.specs.declared.io.Error.{Error as StdIoError}
use Rattle.speedy_base.specs.declared.error.Error.{Error}
use Rattle.speedy_base.specs.declared.device.Faults.{Faults}
use Rattle.speedy_base.specs.Error.{IsNamed, IsIoErrorOf}

-- one failed call more, of a count that is kept in 64 bits and stays at its greatest value
abbrev pub one_fault_more : ℕ → ℕ
one_fault_more count = min (count + 1) (2 ^ 64 - 1)

-- a call failed: the count is greater than it was, or it is at its greatest value
abbrev pub HasGrown : Faults → Faults → Type 0
HasGrown old new = (old.count < new.count) ⊎ (2 ^ 64 - 1 ≤ new.count)

-- one call failed, and answered this error
abbrev pub OneFailed : StdIoError → Faults → Faults → Type 0
OneFailed error old new = (new.count ≡ one_fault_more old.count) × (new.last ≡ Some error)

module _ {E : Type 0} (gives : Error → E → Type 0) where
  -- what the error of a failed call becomes: an `IoError` of it, or want of memory for the box
  abbrev pub IsErrorOf : StdIoError → E → Type 0
  IsErrorOf error e = IsNamed gives (IsIoErrorOf error) e

  -- one call failed, and this is what its error became
  abbrev pub IsOfFailedCall : E → Faults → Faults → Type 0
  IsOfFailedCall e old new = (error : StdIoError) × OneFailed error old new × IsErrorOf error e

  -- a call of a device failed, and if the reader tells which one, this is what its error became
  abbrev pub IsOfFault : Bool → E → Faults → Faults → Type 0
  IsOfFault tells e old new = HasGrown old new × (IsTrue tells → IsOfFailedCall e old new)
