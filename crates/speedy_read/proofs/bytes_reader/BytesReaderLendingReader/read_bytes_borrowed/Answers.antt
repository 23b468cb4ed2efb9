use Rattle.speedy_read.specs.ReadingLemmas.{ends_input}
use Rattle.speedy_read.proofs.BufferLemmas.{bytes_missed, cut_read}
use Rattle.speedy_read.proofs.bytes_reader.BytesReaderLendingReader.read_bytes_borrowed.Goals as goal

pub returns-in-Some-lend-clause-lends : goal.returns-in-Some-lend-clause-lends
returns-in-Some-lend-clause-lends g c =
    let lent = c.in-Some-lend.ensures in (lent.0, cut_read c.in-Some.ensures.cases lent.1)

pub returns-in-Some-lend-2-clause-lends : goal.returns-in-Some-lend-2-clause-lends
returns-in-Some-lend-2-clause-lends g c = (
  c.in-Some-lend-2.ensures.0,
  bytes_missed c.in-None.ensures.cases (ends_input g.met.C.Context.keeps_eof c.error_end_of_input.ensures),
)
