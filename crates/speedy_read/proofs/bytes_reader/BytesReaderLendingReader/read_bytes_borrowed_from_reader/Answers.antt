use Rattle.std.proofs.Common.{refl}
use Rattle.speedy_read.proofs.BufferLemmas.{bytes_not_lent, cut_read}
use Rattle.speedy_read.proofs.bytes_reader.BytesReaderLendingReader.read_bytes_borrowed_from_reader.Goals
    as goal

pub returns-in-Some : goal.returns-in-Some
returns-in-Some g c = ((refl, λ _. tt, cut_read c.in-Some.ensures.cases refl), record { after = tt; is_lent = refl })

pub returns-in-None : goal.returns-in-None
returns-in-None g c = ((refl, λ _. tt, bytes_not_lent c.in-None.ensures.cases), record { after = tt; is_lent = refl })
