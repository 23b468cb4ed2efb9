use Rattle.std.proofs.Common.{[], List, ℕ, Ok, Err, arith, refl}
use denote.Ref.{Bor}
use Rattle.speedy_read.specs.ReadingLemmas.{ends_input, none_so_far}
use Rattle.speedy_read.proofs.ByteLemmas.{bytes_refused}
use Rattle.speedy_read.proofs.ChunkLemmas.{bytes_copied, lent_is, lent_length, lent_read, lent_refused, none_lent}
use Rattle.speedy_read.proofs.bulk.read_bytes_copied.Goals as goal

pub returns-in-Some-Ok : goal.returns-in-Some-Ok
returns-in-Some-Ok g c =
    let lent = lent_is _ (Ok c.in-Some-Ok.bytes) c.in-Some-Ok.is c.in-Some-Ok.field-0-is
    c.read_bytes_borrowed_from_reader.follows.holds-at-none in
    bytes_copied {seen = λ (b : Bor (List ℕ)). b.now} _ c.args.length c.copied.result c.copied.ensures.same
    c.copied.ensures.range (lent_length _ lent) (lent_read _ lent)

pub returns-in-Some-Err : goal.returns-in-Some-Err
returns-in-Some-Err g c =
    let lent = lent_is _ (Err c.in-Some-Err.field-0-0) c.in-Some-Err.is c.in-Some-Err.field-0-is
    c.read_bytes_borrowed_from_reader.follows.holds-at-none in
    let e = c.error_end_of_input.ensures in
    bytes_refused _ _ 0 [] refl (omega arith) (none_so_far refl) refl
    (lent_refused _
    (ends_input g.met.C.Context.keeps_eof e) lent)

pub returns-in-None : goal.returns-in-None
returns-in-None g c = rw (none_lent _ _ c.in-None.is c.read_bytes_borrowed_from_reader.follows.holds-at-none) at
    c.read_byte_chunks.ensures
