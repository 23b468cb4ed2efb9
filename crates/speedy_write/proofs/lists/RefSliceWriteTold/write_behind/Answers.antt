use Rattle.speedy_write.proofs.OwnedLemmas.{borrowed_written}
use Rattle.speedy_write.proofs.lists.RefSliceWriteTold.write_behind.Goals as goal

pub returns : goal.returns
returns g c = borrowed_written c.write_items_behind.ensures
