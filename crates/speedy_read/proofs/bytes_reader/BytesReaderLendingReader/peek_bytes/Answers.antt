use Rattle.speedy_read.specs.ReadingLemmas.{ends_input}
use Rattle.speedy_read.proofs.BufferLemmas.{bytes_not_peeked, cut_peeked}
use Rattle.speedy_read.proofs.bytes_reader.BytesReaderLendingReader.peek_bytes.Goals as goal

pub returns-in-Some-clause-peeks : goal.returns-in-Some-clause-peeks
returns-in-Some-clause-peeks g c = cut_peeked c.in-Some.ensures.cases c.copy_from_slice.ensures.after

pub returns-in-None-clause-peeks : goal.returns-in-None-clause-peeks
returns-in-None-clause-peeks g c =
    bytes_not_peeked c.in-None.ensures.cases (ends_input g.met.C.Context.keeps_eof c.error_end_of_input.ensures)
