use Rattle.speedy_write.proofs.OwnedLemmas.{borrowed_written}
use Rattle.speedy_write.proofs.lengths.RefSliceWriteOfLength.write_of_length.Goals as goal

pub returns : goal.returns
returns g c = borrowed_written c.write_items_alone.ensures
