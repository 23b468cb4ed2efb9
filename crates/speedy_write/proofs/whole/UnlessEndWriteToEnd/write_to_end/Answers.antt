use Rattle.speedy_write.proofs.GrowingLemmas.{missing_written, present_written}
use Rattle.speedy_write.proofs.whole.UnlessEndWriteToEnd.write_to_end.Goals as goal

pub returns-in-None : goal.returns-in-None
returns-in-None g c = rw c.in-None.is (missing_written _ (g.met.W.Writer.nothing _))

pub returns-in-Some : goal.returns-in-Some
returns-in-Some g c = rw c.in-Some.is (present_written _ c.write_present.ensures)
