use Rattle.speedy_write.specs.Sequences.{unit_written}
use Rattle.speedy_write.proofs.tuples.UnitWritable.write_to.Goals as goal

pub returns : goal.returns
returns g c = unit_written (g.met.W.Writer.nothing _)
