use Rattle.speedy_read.proofs.WholeLemmas.{text_bytewise}
use Rattle.speedy_read.proofs.whole.StringReadRest.read_rest.Goals as goal

pub read_bytewise-requires : goal.read_bytewise-requires
read_bytewise-requires g c = text_bytewise
