use Rattle.speedy_read.specs.ReadingLemmas.{ends_input}
use Rattle.speedy_read.proofs.BufferLemmas.{bytes_missed, cut_read}
use Rattle.speedy_read.proofs.bytes_reader.BytesReaderLendingReader.read_bytes.Goals as goal

pub returns-in-Some-clause-reads : goal.returns-in-Some-clause-reads
returns-in-Some-clause-reads g c = cut_read c.in-Some.ensures.cases c.copy_from_slice.ensures.after

pub returns-in-None-clause-reads : goal.returns-in-None-clause-reads
returns-in-None-clause-reads g c =
    bytes_missed c.in-None.ensures.cases (ends_input g.met.C.Context.keeps_eof c.error_end_of_input.ensures)
