use Rattle.speedy_write.proofs.CTextLemmas.{owned_as}
use Rattle.speedy_write.proofs.c_text.BoxedStrWriteNulEnded.write_nul_ended.Goals as goal

pub returns : goal.returns
returns g c = owned_as c.as_str.ensures.value c.write_c_text.ensures
