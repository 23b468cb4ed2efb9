use Rattle.std.proofs.Common.{◌∙◌, arith}
use Rattle.std.proofs.lemmas.List.{length-take-le}
use Rattle.speedy_read.proofs.NumberLemmas.{digits_not_peeked, digits_peeked}
use Rattle.speedy_read.proofs.digits.peek_number.Goals as goal

pub returns-in_err-peek_bytes : goal.returns-in_err-peek_bytes
returns-in_err-peek_bytes g c =
    let fixed = g.met.T.FixedNumber.fixed.is_fixed in
    let sized = length-take-le c.SIZE.result _ (omega (arith, c.SIZE.ensures, fixed.at_most)) ∙ c.SIZE.ensures in
    digits_not_peeked g.T.Layout.layout.laws fixed sized c.from_residual.ensures.1 c.in_err-peek_bytes.ensures

pub returns : goal.returns
returns g c =
    digits_peeked g.T.Layout.layout.laws g.met.T.FixedNumber.fixed.is_fixed _ c.endianness.ensures c.number_of.ensures
    c.in_ok-peek_bytes.ensures
