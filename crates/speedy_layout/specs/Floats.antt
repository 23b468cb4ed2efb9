-- Floats that are held as their bits.
use Rattle.std.specs.Prelude.{ℕ, from_bits}
use Rattle.std.specs.Float.{Float, binary32, binary64}
use Rattle.speedy_layout.specs.declared.floats.F32.{F32}
use Rattle.speedy_layout.specs.declared.floats.F64.{F64}

-- the bits, as a number
abbrev pub f32_bits : F32 → ℕ
f32_bits it = it.0

abbrev pub f64_bits : F64 → ℕ
f64_bits it = it.0

-- the float of these bits; all bits of NaNs are one float
abbrev pub f32_value : F32 → Float
f32_value it = from_bits binary32 it.0

abbrev pub f64_value : F64 → Float
f64_value it = from_bits binary64 it.0
