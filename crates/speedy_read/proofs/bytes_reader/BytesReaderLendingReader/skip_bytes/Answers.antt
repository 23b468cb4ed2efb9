use Rattle.speedy_read.specs.ReadingLemmas.{ends_input}
use Rattle.speedy_read.proofs.BufferLemmas.{bytes_not_skipped, cut_skipped}
use Rattle.speedy_read.proofs.bytes_reader.BytesReaderLendingReader.skip_bytes.Goals as goal

pub returns-in-Some-clause-skips : goal.returns-in-Some-clause-skips
returns-in-Some-clause-skips g c = cut_skipped {seen = λ x. x} c.in-Some.ensures.cases

pub returns-in-None-clause-skips : goal.returns-in-None-clause-skips
returns-in-None-clause-skips g c =
    bytes_not_skipped {seen = λ x. x} c.in-None.ensures.cases
    (ends_input g.met.C.Context.keeps_eof c.error_end_of_input.ensures)
