use Rattle.speedy_write.proofs.OwnedLemmas.{borrowed_written}
use Rattle.speedy_write.proofs.lengths.RefStrWriteOfLength.write_of_length.Goals as goal

pub returns : goal.returns
returns g c = borrowed_written c.write_text_alone.ensures
