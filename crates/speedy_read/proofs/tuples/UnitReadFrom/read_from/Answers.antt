use Rattle.speedy_read.specs.Flags.{unit_read}
use Rattle.speedy_read.proofs.tuples.UnitReadFrom.read_from.Goals as goal

pub returns : goal.returns
returns g c = unit_read
