use Rattle.std.proofs.Common.{◌∙◌, arith}
use Rattle.std.proofs.lemmas.List.{length-take-le}
use Rattle.speedy_read.proofs.NumberLemmas.{digits_refused, digits_read}
use Rattle.speedy_read.proofs.digits.read_number.Goals as goal

pub returns-in_err-read_bytes : goal.returns-in_err-read_bytes
returns-in_err-read_bytes g c =
    let fixed = g.met.T.FixedNumber.fixed.is_fixed in
    let sized = length-take-le c.SIZE.result _ (omega (arith, c.SIZE.ensures, fixed.at_most)) ∙ c.SIZE.ensures in
    digits_refused g.T.Layout.layout.laws fixed sized c.from_residual.ensures.1 c.in_err-read_bytes.ensures

pub returns : goal.returns
returns g c =
    digits_read g.T.Layout.layout.laws g.met.T.FixedNumber.fixed.is_fixed _ c.endianness.ensures c.number_of.ensures
    c.in_ok-read_bytes.ensures
