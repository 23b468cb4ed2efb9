use Rattle.std.proofs.Common.{◌∙◌}
use Rattle.speedy_read.specs.ReadingLemmas.{ends_input}
use Rattle.speedy_read.proofs.BufferLemmas.{bytes_missed, bytes_read}
use Rattle.speedy_read.proofs.buffer_reader.BufferReaderLendingReaderRefSliceU8.read_bytes.Goals as goal

pub returns-then-self-length-clause-reads : goal.returns-then-self-length-clause-reads
returns-then-self-length-clause-reads g c =
    bytes_missed c.if-self-length.true (ends_input g.met.C.Context.keeps_eof c.error_end_of_input.ensures)

pub returns-clause-reads : goal.returns-clause-reads
returns-clause-reads g c = rw c.split_at.ensures.back
    (bytes_read c.if-self-length.false (c.copy_from_slice.ensures.after ∙ c.split_at.ensures.front))
