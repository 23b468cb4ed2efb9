use Rattle.speedy_write.proofs.WholeLemmas.{text_bytewise}
use Rattle.speedy_write.proofs.whole.StringWriteRest.write_rest.Goals as goal

pub write_bytewise-requires : goal.write_bytewise-requires
write_bytewise-requires g c = text_bytewise
