use Rattle.std.proofs.Common.{refl}
use Rattle.speedy_read.proofs.PaddingLemmas.{zeros_differ, zeros_read, zeros_refused}
use Rattle.speedy_read.proofs.padding.expect_zeros.Goals as goal

pub returns-in_err-are_zeros : goal.returns-in_err-are_zeros
returns-in_err-are_zeros g c = zeros_refused _ _ c.from_residual.ensures.1 c.in_err-are_zeros.ensures

pub returns-then-not-are_zeros : goal.returns-then-not-are_zeros
returns-then-not-are_zeros g c =
    zeros_differ _ _ c.if-not-are_zeros.true (_, refl, c.error_expected_constant.ensures) c.in_ok-are_zeros.ensures

pub returns : goal.returns
returns g c = zeros_read _ _ c.if-not-are_zeros.false c.in_ok-are_zeros.ensures
