use Rattle.std.proofs.Common.{refl}
use Rattle.speedy_read.proofs.CTextLemmas.{lent_text_decides, lent_text_refused}
use Rattle.speedy_read.proofs.c_text.RefStrReadNulEndedRefSliceU8.read_nul_ended.Goals as goal

pub returns-in_err-bytes : goal.returns-in_err-bytes
returns-in_err-bytes g c = lent_text_refused _ c.from_residual.ensures.1 c.in_err-bytes.ensures

pub returns : goal.returns
returns g c = lent_text_decides _ refl c.bytes_to_str.ensures c.in_ok-bytes.ensures
