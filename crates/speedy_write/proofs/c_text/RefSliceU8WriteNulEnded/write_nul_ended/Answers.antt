use Rattle.speedy_write.proofs.OwnedLemmas.{borrowed_written}
use Rattle.speedy_write.proofs.c_text.RefSliceU8WriteNulEnded.write_nul_ended.Goals as goal

pub returns : goal.returns
returns g c = borrowed_written c.write_c_bytes.ensures
