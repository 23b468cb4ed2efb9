-- What a writer does that only counts.
use Rattle.std.specs.Prelude.{◌≡◌, ℕ, ◌+◌, ◌-◌, ◌^◌, ◌<◌, ◌⊎◌, List, [], ◌++◌, length, min, None, true, false}
use Rattle.std.specs.Borrow.{GName}
use Rattle.std.proofs.Common.{arith, length-append}
use Rattle.speedy_base.specs.declared.error.ErrorKind.TheVariants as kinds
use Rattle.speedy_base.specs.MemoryDevices.{no_faults}
use Rattle.speedy_base.specs.Mode.{Mode}
use Rattle.speedy_layout.specs.Format.{Each, Format}
use Rattle.speedy_write.specs.Collectors.{DoesNotFit}
use Rattle.speedy_write.specs.Writing.{WriterState}

-- a collector that counts has no bound
abbrev pub counting_state : Mode → List GName → WriterState
counting_state mode targets = record {
  fixed = record { tells = false; tells_faults = true; full = kinds.OutOfRangeLength; targets = targets };
  mode = mode;
  faults = no_faults;
  space = None;
  settled = true;
}

-- the sum grows by the number of bytes, as far as `usize::MAX`, at which it stays
abbrev pub CountAppends : ℕ → List ℕ → ℕ → Type 0
CountAppends sum bytes after = min after (2 ^ 64 - 1) ≡ min (sum + length bytes) (2 ^ 64 - 1)

pub count_nothing : (n : ℕ) → CountAppends n [] n
count_nothing n = omega arith

pub count_additive : (a b c : ℕ) (s t : List ℕ) → CountAppends a s b → CountAppends b t c → CountAppends a (s ++ t) c
count_additive a b c s t h k = omega (arith, length-append s t)

-- the value has a canonical encoding of n bytes
abbrev pub HasSize : {V : Type 0} → (V → List ℕ → Type 0) → V → ℕ → Type 0
HasSize writes v size = (bytes : List ℕ) × writes v bytes × (size ≡ length bytes)

-- the values, one after another, have a canonical encoding of n bytes
abbrev pub CountsEach : {V : Type 0} → (V → List ℕ → Type 0) → List V → ℕ → Type 0
CountsEach writes vs size = (bytes : List ℕ) × Each writes vs bytes × (length bytes ≡ size)

-- values that are not counted together: too many, or such as have no encoding of a length that a `usize` counts
abbrev pub AreTooLong : {V : Type 0} → (Mode → Format V) → List V → Type 0
AreTooLong F vs = (4294967295 < length vs) ⊎ ((mode : Mode) → DoesNotFit (Each (F mode).writes) vs (2 ^ 64 - 1))
