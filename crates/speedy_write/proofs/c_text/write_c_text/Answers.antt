use Rattle.speedy_write.proofs.CTextLemmas.{text_written}
use Rattle.speedy_write.proofs.c_text.write_c_text.Goals as goal

pub returns : goal.returns
returns g c = text_written c.as_bytes.ensures.value c.utf8.text c.write_c_bytes.ensures
