use Rattle.speedy_read.proofs.WholeLemmas.{bytes_bytewise}
use Rattle.speedy_read.proofs.whole.RefSliceU8ReadRest.read_rest.Goals as goal

pub read_bytewise-requires : goal.read_bytewise-requires
read_bytewise-requires g c = bytes_bytewise
