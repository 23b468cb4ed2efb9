use Rattle.std.proofs.Common.{rules}
use Rattle.speedy_read.proofs.OwnedReaderLemmas.{unheld_reads}
use Rattle.speedy_read.proofs.reader.LendingReader.read_owned_value.Goals as goal

pub returns : goal.returns
returns g c = rw (← c.new-reader.ensures.reader) (search (rules, unheld_reads c.read_from-value.ensures))
