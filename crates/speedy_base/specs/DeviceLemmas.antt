-- What holds of what calls keep, and of failed calls.
use Rattle.std.specs.Prelude.{◌≡◌, ℕ, ◌-◌, ◌^◌, ◌<◌, ◌≤◌, ◌⊎◌, Bool, IsTrue, refl}
use Rattle.std.specs.declared.io.Error.{Error as StdIoError}
use Rattle.std.proofs.Common.{sym, ◌∙◌, subst, arith, inl, inr}
use Rattle.std.proofs.lemmas.Bool.{cases_lt}
use Rattle.speedy_base.specs.declared.error.Error.{Error}
use Rattle.speedy_base.specs.declared.device.Faults.{Faults}
use Rattle.speedy_base.specs.Device.{DeviceKept}
use Rattle.speedy_base.specs.FailedCalls.{one_fault_more, HasGrown, OneFailed, IsErrorOf, IsOfFault}

-- a device that stays as it is
pub DeviceKept-same : {tells : Bool} {faults : Faults} → DeviceKept tells tells faults faults
DeviceKept-same = record { tells = refl; faults = omega arith }

-- one call after another keeps what each keeps
pub DeviceKept-after : {a b c : Bool} {x y z : Faults} → DeviceKept a b x y → DeviceKept b c y z → DeviceKept a c x z
DeviceKept-after h k = record {
  tells = k.tells ∙ h.tells;
  faults = let i = h.faults in let j = k.faults in omega arith;
}

-- a device that tells its bytes goes on doing so
pub DeviceKept-told : {a b : Bool} {x y : Faults} → DeviceKept a b x y → IsTrue a → IsTrue b
DeviceKept-told h told = subst IsTrue (sym h.tells) told

one_more_grew : (a b : ℕ) → b ≡ one_fault_more a → (a < b) ⊎ (2 ^ 64 - 1 ≤ b)
one_more_grew a b h =
    elim (cases_lt a (2 ^ 64 - 1)) [
      | inl less ↦ inl (omega (arith, h))
      | inr most ↦ inr (omega (arith, h))
    ]

-- where one call failed, the count has grown
pub grown : (error : StdIoError) (old new : Faults) → OneFailed error old new → HasGrown old new
grown error old new h = one_more_grew old.count new.count h.0

-- so what became of its error is that of a fault, whether it is told which one or not
pub failed_call : {E : Type 0} (gives : Error → E → Type 0) (tells : Bool) (error : StdIoError) (e : E)
    (old new : Faults)
    → OneFailed error old new → IsErrorOf gives error e → IsOfFault gives tells e old new
failed_call gives tells error e old new h is = (grown error old new h, λ _. (error, h, is))

-- the fault of a later part is one of the whole, where no call failed before
pub fault_after : {E : Type 0} (gives : Error → E → Type 0) (tells : Bool) (e : E) (old mid new : Faults) → mid ≡ old
    → IsOfFault gives tells e mid new → IsOfFault gives tells e old new
fault_after gives tells e old mid new same h = subst (λ (f : Faults). IsOfFault gives tells e f new) same h
