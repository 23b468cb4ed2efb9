use Rattle.std.proofs.Common.{refl}
use Rattle.speedy_read.proofs.OwnedReaderLemmas.{held_lends}
use Rattle.speedy_read.proofs.owned_reader.OwnedReaderLendingReaderNothingLent.read_bytes_borrowed_from_reader.Goals
    as goal

pub returns : goal.returns
returns g c = (
  (refl, λ _. tt, held_lends _ _ _ _ _ _ c.read_bytes_borrowed_from_reader.follows.holds-at-none),
  record { after = tt },
)
