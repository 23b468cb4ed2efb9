use Rattle.std.proofs.Common.{refl, sym, subst}
use Rattle.speedy_read.specs.Codes.{length_refused, length_read, length_unread}
use Rattle.speedy_read.proofs.lengths.read_told.Goals as goal

pub returns-in_err-before-clause-reads : goal.returns-in_err-before-clause-reads
returns-in_err-before-clause-reads g c = length_refused _ _ c.from_residual.ensures.1 c.in_err-before.ensures

pub returns-in-Some-clause-reads : goal.returns-in-Some-clause-reads
returns-in-Some-clause-reads g c =
    length_read _ _ (refl, subst g.K.Length.is_told c.numbers.ensures c.in-Some.ensures.0) c.in_ok-before.ensures

pub returns-in-None-clause-reads : goal.returns-in-None-clause-reads
returns-in-None-clause-reads g c =
    length_unread _ _ (g.B.Holds.layout.laws _)
    (λ told. c.in-None.ensures (subst g.K.Length.is_told (sym c.numbers.ensures) told))
    c.error_out_of_range_length.ensures c.in_ok-before.ensures
