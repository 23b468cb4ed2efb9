use Rattle.std.proofs.Common.{refl}
use Rattle.speedy_read.proofs.CTextLemmas.{owned_text_decides, owned_text_refused}
use Rattle.speedy_read.proofs.c_text.CowStrReadNulEndedRefSliceU8.read_nul_ended.Goals as goal

pub returns-in_err-bytes : goal.returns-in_err-bytes
returns-in_err-bytes g c = owned_text_refused _ c.from_residual.ensures.1 c.in_err-bytes.ensures

pub returns : goal.returns
returns g c = owned_text_decides _ refl c.cow_bytes_to_cow_str.ensures c.in_ok-bytes.ensures
