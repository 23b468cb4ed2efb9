use Rattle.speedy_write.proofs.OwnedLemmas.{owned_written}
use Rattle.speedy_write.proofs.owned.BoxWritable.write_to.Goals as goal

pub returns : goal.returns
returns g c = owned_written (rw c.as_ref.ensures at c.write_to.ensures)
