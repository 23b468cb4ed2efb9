use Rattle.speedy_read.proofs.LentLemmas.{text_lent, text_not_lent}
use Rattle.speedy_read.proofs.lengths.RefStrReadOfLengthRefSliceU8.read_of_length.Goals as goal

pub returns-in_err-bytes : goal.returns-in_err-bytes
returns-in_err-bytes g c = text_not_lent _ _ c.from_residual.ensures.1 c.in_err-bytes.ensures.reads

pub returns : goal.returns
returns g c = text_lent _ _ c.bytes_to_str.ensures c.in_ok-bytes.ensures.reads
