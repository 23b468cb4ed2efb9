use Rattle.std.proofs.Common.{refl, sym}
use Rattle.std.proofs.lemmas.List.{append-nil}
use Rattle.speedy_read.proofs.BufferLemmas.{Kept-rest}
use Rattle.speedy_read.proofs.bytes_reader.BytesReaderLendingReader.read_bytes_borrowed_until_eof.Goals as goal

pub returns-clause-lends : goal.returns-clause-lends
returns-clause-lends g c = (Kept-rest _ (sym (append-nil _)), λ _. (c.in-Some.ensures.1, refl))
