use Rattle.std.proofs.Common.{refl}
use Rattle.speedy_read.specs.Sequences.{pair_composes, refused_first, refused_second, got_both}
use Rattle.speedy_read.proofs.lengths.Tuple2ReadHolds.read_parts.Goals as goal

pub returns-in_err-first : goal.returns-in_err-first
returns-in_err-first g c = refused_first pair_composes c.from_residual.ensures.1 c.in_err-first.ensures

pub returns-in_err-second : goal.returns-in_err-second
returns-in_err-second g c =
    let first = c.in_ok-first.ensures in
    refused_second pair_composes (g.A.Holds.layout.laws _) first c.from_residual-in_err-second.ensures.1
    (rw first.kept.mode at c.in_err-second.ensures)

pub returns : goal.returns
returns g c =
    let first = c.in_ok-first.ensures in
    got_both pair_composes first (rw first.kept.mode at c.in_ok-second.ensures) refl
