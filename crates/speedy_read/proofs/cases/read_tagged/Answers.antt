use Rattle.std.proofs.Common.{refl}
use Rattle.speedy_read.proofs.CaseLemmas.{tagged_composes, behind_read}
use Rattle.speedy_read.specs.Sequences.{refused_first, second_decides}
use Rattle.speedy_read.proofs.cases.read_tagged.Goals as goal

pub returns-in_err-tag : goal.returns-in_err-tag
returns-in_err-tag g c =
    refused_first (tagged_composes g.N.Prefix.numbers.codec.format g.T.Cases.choices _) c.from_residual.ensures.1
    c.in_err-tag.ensures

pub returns : goal.returns
returns g c =
    let number = c.in_ok-tag.ensures in
    second_decides (tagged_composes g.N.Prefix.numbers.codec.format g.T.Cases.choices _)
    (g.N.Prefix.numbers.codec.laws _) number
    (behind_read _ _ number.kept.mode c.read_case.ensures) (λ _. refl)
