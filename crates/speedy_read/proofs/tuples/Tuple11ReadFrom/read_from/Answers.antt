use Rattle.speedy_read.specs.ReadingLemmas.{refused_as}
use Rattle.speedy_read.proofs.tuples.Tuple11ReadFrom.read_from.Goals as goal

pub returns-in_err-v0 : goal.returns-in_err-v0
returns-in_err-v0 g c = refused_as c.from_residual.ensures.1 c.in_err-v0.ensures
