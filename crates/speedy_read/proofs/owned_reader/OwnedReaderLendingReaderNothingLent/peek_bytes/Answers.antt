use Rattle.speedy_read.proofs.OwnedReaderLemmas.{held_peeks}
use Rattle.speedy_read.proofs.owned_reader.OwnedReaderLendingReaderNothingLent.peek_bytes.Goals as goal

pub returns : goal.returns
returns g c = held_peeks _ c.peek_bytes.ensures
