use Rattle.speedy_write.proofs.WholeLemmas.{borrowed_bytewise}
use Rattle.speedy_write.proofs.whole.RefStrWriteRest.write_rest.Goals as goal

pub write_bytewise-requires : goal.write_bytewise-requires
write_bytewise-requires g c = borrowed_bytewise
