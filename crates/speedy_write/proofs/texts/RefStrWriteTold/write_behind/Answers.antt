use Rattle.speedy_write.proofs.OwnedLemmas.{borrowed_written}
use Rattle.speedy_write.proofs.texts.RefStrWriteTold.write_behind.Goals as goal

pub returns : goal.returns
returns g c = borrowed_written c.write_text_behind.ensures
