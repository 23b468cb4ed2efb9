use Rattle.speedy_write.proofs.OwnedLemmas.{borrowed_written}
use Rattle.speedy_write.proofs.texts.RefStrWritable.write_to.Goals as goal

pub returns : goal.returns
returns g c = borrowed_written c.write_text.ensures
