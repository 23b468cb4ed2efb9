use Rattle.speedy_read.proofs.OwnedReaderLemmas.{held_reads}
use Rattle.speedy_read.proofs.owned_reader.OwnedReaderLendingReaderNothingLent.read_bytes.Goals as goal

pub returns : goal.returns
returns g c = held_reads _ c.read_bytes.ensures
