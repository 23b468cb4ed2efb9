-- Writes of lengths and constants.
use Rattle.std.specs.Prelude.{◌≡◌, ℕ, ◌<◌, ◌≤◌, List, Result, IsErrAnd, refl}
use Rattle.speedy_base.specs.declared.error.ErrorKind.TheVariants as kinds
use Rattle.speedy_base.specs.declared.error.Error.{Error}
use Rattle.speedy_base.specs.Error.{error_of}
use Rattle.speedy_base.specs.Mode.{Mode}
use Rattle.speedy_layout.specs.Codes.{coding}
use Rattle.speedy_layout.specs.Format.{Format}
use Rattle.speedy_layout.specs.Texts.{raw_bytes, constant_bytes, constant_bytes_laws}
use Rattle.speedy_write.specs.Sequences.{form_written}
use Rattle.speedy_write.specs.Writing.{WriterState, Writes, WritesBytes, WritesAs, RefusesFull}

-- The write of a length as a number of a format, which holds lengths below the bound. Those are refused only where a
-- call of the device failed or the space is full. Others are refused before anything is written.
pub record WritesLength {E S : Type 0} (gives : Error → E → Type 0) (state : S → WriterState)
    (appends : S → List ℕ → S → Type 0) (format : Mode → Format ℕ) (bound length : ℕ) (result : Result (Unit {0}) E)
    (old new : S) : Type 0 where
  pub writes : WritesAs gives state appends (λ n. n) format length result old new
  pub full : length < bound → RefusesFull gives state result old new
  pub too_long : bound ≤ length → (new ≡ old) × IsErrAnd result (gives (error_of kinds.OutOfRangeLength))

-- the bytes of a constant are written as the constant is
pub constant_written : {E : Type 0} {gives : Error → E → Type 0} {constant : List ℕ} {result : Result (Unit {0}) E}
    {old new : WriterState} {appended : List ℕ → Type 0} → WritesBytes gives constant result old new appended
    → Writes gives (λ mode. constant_bytes mode constant) constant result old new appended
unfolding constant_bytes coding raw_bytes
constant_written {constant = constant} w =
    form_written (λ mode. constant_bytes_laws mode constant)
    (record { code = constant; code_is = (refl, refl); stands = (refl, refl) }) w
