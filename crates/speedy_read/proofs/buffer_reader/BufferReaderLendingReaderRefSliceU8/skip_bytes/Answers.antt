use Rattle.std.proofs.lemmas.List.{take_rest}
use Rattle.speedy_read.specs.ReadingLemmas.{ends_input}
use Rattle.speedy_read.proofs.BufferLemmas.{bytes_not_skipped, bytes_skipped}
use Rattle.speedy_read.proofs.buffer_reader.BufferReaderLendingReaderRefSliceU8.skip_bytes.Goals as goal

pub returns-then-self-length-clause-skips : goal.returns-then-self-length-clause-skips
returns-then-self-length-clause-skips g c =
    bytes_not_skipped {seen = λ x. x} c.if-self-length.true
    (ends_input g.met.C.Context.keeps_eof c.error_end_of_input.ensures)

pub returns-clause-skips : goal.returns-clause-skips
returns-clause-skips g c =
    rw (take_rest c.args.self.now.rest.now c.args.length) (bytes_skipped {seen = λ x. x} c.if-self-length.false)
