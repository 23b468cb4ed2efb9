use Rattle.std.proofs.Common.{sym, ◌∙◌, ap, subst}
use Rattle.std.specs.Prelude.{T, from_bits}
use Rattle.std.specs.Float.{binary32}
use lib.Ieee.Bits.{of_bits-to_bits}
use Rattle.speedy_layout.proofs.floats.F32From.from.Goals as goal

pub returns : goal.returns
returns c =
    let bits = c.f32_to_bits_with_nan.ensures in
    let fits = subst T (sym c.well_formed.0.1) tt in
    (bits, ap (from_bits binary32) bits ∙ of_bits-to_bits binary32 c.args.value fits)
