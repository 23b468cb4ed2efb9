-- Numbers that are not 0.
use Rattle.std.specs.Prelude.{◌≢◌, ℕ, ℤ, pos, ◌<◌}
use Rattle.std.proofs.Common.{ap, arith}
use Rattle.std.specs.Int.{Width}
use Rattle.std.specs.Int.RustNames.{unsigned_abs}
use Rattle.speedy_base.specs.declared.error.ErrorKind.TheVariants as kinds
use Rattle.speedy_base.specs.Mode.{Mode}
use Rattle.speedy_layout.specs.Format.{Format}
use Rattle.speedy_layout.specs.Laws.{Codec}
use Rattle.speedy_layout.specs.Codes.{subset_codec}
use Rattle.speedy_layout.specs.Numbers.{unsigned_codec, signed_codec}

-- numbers of n digits other than 0
abbrev pub non_zero_codec : ℕ → Codec ℕ
non_zero_codec width = subset_codec (λ n. n ≢ 0) kinds.ZeroNonZero tt (unsigned_codec width)

abbrev pub non_zero_number : ℕ → Mode → Format ℕ
non_zero_number width = (non_zero_codec width).format

-- signed numbers of a width other than 0
abbrev pub signed_non_zero_codec : Width → Codec ℤ
signed_non_zero_codec w = subset_codec (λ z. z ≢ pos 0) kinds.ZeroNonZero tt (signed_codec w)

abbrev pub signed_non_zero_number : Width → Mode → Format ℤ
signed_non_zero_number w = (signed_non_zero_codec w).format

pub signed_not_zero : (z : ℤ) → 0 < unsigned_abs z → z ≢ pos 0
signed_not_zero z l e = let is = ap unsigned_abs e in absurd (omega arith)
