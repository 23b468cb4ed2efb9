use Rattle.std.proofs.Common.{◌∙◌, rules}
use Rattle.speedy_read.specs.ReadingLemmas.{ends_input}
use Rattle.speedy_read.proofs.BufferLemmas.{bytes_not_peeked, bytes_peeked}
use Rattle.speedy_read.proofs.buffer_reader.BufferReaderLendingReaderRefSliceU8.peek_bytes.Goals as goal

pub returns-then-self-length-clause-peeks : goal.returns-then-self-length-clause-peeks
returns-then-self-length-clause-peeks g c =
    bytes_not_peeked c.if-self-length.true (ends_input g.met.C.Context.keeps_eof c.error_end_of_input.ensures)

pub returns-clause-peeks : goal.returns-clause-peeks
returns-clause-peeks g c = bytes_peeked c.if-self-length.false (c.copy_from_slice.ensures.after ∙ search rules)
