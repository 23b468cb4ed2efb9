use Rattle.speedy_write.proofs.CTextLemmas.{owned_as}
use Rattle.speedy_write.proofs.c_text.CowSliceU8WriteNulEnded.write_nul_ended.Goals as goal

pub returns : goal.returns
returns g c = owned_as c.as_ref.ensures.value c.write_c_bytes.ensures
