use Rattle.std.proofs.Common.{refl}
use Rattle.speedy_read.specs.ReadingLemmas.{ends_input}
use Rattle.speedy_read.proofs.BufferLemmas.{bytes_missed, cut_read}
use Rattle.speedy_read.proofs.buffer_reader.BufferReaderLendingReaderRefSliceU8.read_bytes_borrowed.Goals as goal

pub returns-in-Some-clause-lends : goal.returns-in-Some-clause-lends
returns-in-Some-clause-lends g c = (refl, cut_read c.in-Some.ensures.cases refl)

pub returns-in-None-clause-lends : goal.returns-in-None-clause-lends
returns-in-None-clause-lends g c = (
  refl,
  bytes_missed c.in-None.ensures.cases (ends_input g.met.C.Context.keeps_eof c.error_end_of_input.ensures),
)
