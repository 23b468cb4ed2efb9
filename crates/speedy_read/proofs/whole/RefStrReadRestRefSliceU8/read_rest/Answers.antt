use Rattle.speedy_read.proofs.WholeLemmas.{borrowed_bytewise}
use Rattle.speedy_read.proofs.whole.RefStrReadRestRefSliceU8.read_rest.Goals as goal

pub read_bytewise-requires : goal.read_bytewise-requires
read_bytewise-requires g c = borrowed_bytewise
