use Rattle.std.proofs.Common.{refl}
use Rattle.speedy_read.proofs.CTextLemmas.{owned_text_decides, owned_text_refused}
use Rattle.speedy_read.proofs.c_text.StringReadNulEnded.read_nul_ended.Goals as goal

pub returns-in_err-bytes : goal.returns-in_err-bytes
returns-in_err-bytes g c = owned_text_refused _ c.from_residual.ensures.1 c.in_err-bytes.ensures

pub returns : goal.returns
returns g c = owned_text_decides _ refl c.vec_to_string.ensures c.in_ok-bytes.ensures
