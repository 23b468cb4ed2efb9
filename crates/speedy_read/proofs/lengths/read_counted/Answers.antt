use Rattle.std.proofs.Common.{refl}
use Rattle.speedy_read.specs.BehindCounts.{counted_composes}
use Rattle.speedy_read.specs.Sequences.{refused_first, second_decides}
use Rattle.speedy_read.proofs.lengths.read_counted.Goals as goal

pub returns-in_err-length : goal.returns-in_err-length
returns-in_err-length g c =
    refused_first (counted_composes g.N.Prefix.numbers.codec g.T.OfLength.counting _) c.from_residual.ensures.1
    c.in_err-length.ensures

pub returns : goal.returns
returns g c =
    let number = c.in_ok-length.ensures in
    second_decides (counted_composes g.N.Prefix.numbers.codec g.T.OfLength.counting _)
    (g.N.Prefix.numbers.codec.laws _) number (rw number.kept.mode at c.read_of_length.ensures) (λ _. refl)
