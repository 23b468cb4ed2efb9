-- Signed numbers are decoded to numbers that are not 0, at each width.
use Rattle.std.specs.Prelude.{◌≡◌, ℤ, ◌<◌, Bool, Ok}
use Rattle.std.proofs.Common.{◌∙◌}
use Rattle.std.specs.Int.{Width, cast_unsigned, cast_signed}
use Rattle.std.specs.Int.RustNames.{unsigned_abs, FitsSigned}
use mir.ValLaws.{to_z-of_z}
use Rattle.speedy_base.specs.Error.{Errors}
use Rattle.speedy_layout.specs.NonZero.{signed_non_zero_codec, signed_not_zero}
use Rattle.speedy_layout.specs.Numbers.{signed_codec}
use Rattle.speedy_read.specs.Decoding.{Decodes, subset_decoded}

pub signed_non_zero_decoded : {E B : Type 0} {errors : Errors E} {strict : Bool} (w : Width) {z : ℤ} {seen : B → ℤ}
    {x : B} → FitsSigned w z → seen x ≡ cast_signed w (cast_unsigned w z) → 0 < unsigned_abs (seen x)
    → Decodes errors strict (signed_codec w) (signed_non_zero_codec w) z seen (Ok x)
signed_non_zero_decoded w {z = z} {seen = seen} {x = x} range same some =
    subset_decoded _ _ _ _ (same ∙ to_z-of_z w z range) (signed_not_zero (seen x) some)
