use Rattle.speedy_layout.specs.Lists.{vector}
use Rattle.speedy_write.proofs.OwnedLemmas.{owned_written}
use Rattle.speedy_write.proofs.lists.ArrayWritable.write_to.Goals as goal

pub returns : goal.returns
unfolding vector
returns g c = owned_written (rw c.type_inv.self at (rw c.as_slice.ensures at c.write_many.ensures))
