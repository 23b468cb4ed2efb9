use Rattle.std.proofs.Common.{rules}
use Rattle.speedy_read.proofs.OwnedReaderLemmas.{unheld_whole}
use Rattle.speedy_read.proofs.memory_reader.MemoryReader.read_owned_whole.Goals as goal

pub returns : goal.returns
returns g c = rw (← c.new-reader.ensures.reader) (search (rules, unheld_whole c.read_whole-value.ensures))
