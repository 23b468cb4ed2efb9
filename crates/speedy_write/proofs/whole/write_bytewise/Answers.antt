use Rattle.speedy_write.proofs.WholeLemmas.{bytes_written}
use Rattle.speedy_write.proofs.whole.write_bytewise.Goals as goal

pub returns : goal.returns
returns g c = bytes_written g.T.OfLength.counting c.requires c.write_of_length.ensures
