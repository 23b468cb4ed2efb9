use Rattle.speedy.specs.ReadingLemmas.{refused_as}
use Rattle.speedy_examples.proofs.own_parts.MonthsReadFrom.read_from.Goals as goal

pub returns-in_err-january : goal.returns-in_err-january
returns-in_err-january g c = refused_as c.from_residual.ensures.1 c.in_err-january.ensures
