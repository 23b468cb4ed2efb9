use Rattle.std.proofs.Common.{[], List, ℕ, Ok, Err, arith, refl}
use denote.Ref.{Bor}
use Rattle.speedy_read.specs.ReadingLemmas.{ends_input, none_so_far}
use Rattle.speedy_read.proofs.ByteLemmas.{all_bytes, bytes_refused, more_bytes}
use Rattle.speedy_read.proofs.FlagLemmas.{flags_answered, flags_refused}
use Rattle.speedy_read.proofs.ChunkLemmas.{lent_is, lent_length, lent_read, lent_refused, none_lent}
use Rattle.speedy_read.proofs.bulk.read_flags.Goals as goal

pub returns-in-Some-Ok : goal.returns-in-Some-Ok
returns-in-Some-Ok g c =
    let bytes = c.in-Some-Ok.bytes in
    let lent = lent_is _ (Ok bytes) c.in-Some-Ok.is c.in-Some-Ok.field-0-is
    c.read_bytes_borrowed_from_reader.follows.holds-at-none in
    flags_answered _ {seen = λ (b : Bor (List ℕ)). b.now} _ c.requires c.flags_of.result c.flags_of.ensures.flags
    c.flags_of.ensures.range
    (all_bytes {y = bytes} _
    (more_bytes _ [] bytes.now (none_so_far refl)
    (lent_read {E = g.row.C-Error.Denot} {gives = g.C.Error.From.from_gives} {eof = g.C.Error.IsEof.eof} _ lent) refl)
    (lent_length _ lent) c.flags_of.ensures.range)

pub returns-in-Some-Err : goal.returns-in-Some-Err
returns-in-Some-Err g c =
    let lent = lent_is _ (Err c.in-Some-Err.field-0-0) c.in-Some-Err.is c.in-Some-Err.field-0-is
    c.read_bytes_borrowed_from_reader.follows.holds-at-none in
    let e = c.error_end_of_input.ensures in
    flags_refused _ {seen = λ (_ : Unit {0}). []} _ refl
    (bytes_refused _ _ 0 [] refl (omega arith) (none_so_far refl) refl
    (lent_refused _
    (ends_input g.met.C.Context.keeps_eof e) lent))

pub returns-in_err-bytes-in-None : goal.returns-in_err-bytes-in-None
returns-in_err-bytes-in-None g c = flags_refused _ _ c.from_residual.ensures.1
    (rw (none_lent _ _ c.in-None.is c.read_bytes_borrowed_from_reader.follows.holds-at-none) at
    c.in_err-bytes-in-None.ensures)

pub returns-in_ok-bytes-in-None : goal.returns-in_ok-bytes-in-None
returns-in_ok-bytes-in-None g c =
    let same = c.deref.ensures.value in
    flags_answered _ _ c.requires c.flags_of-in-None.result (rw same at c.flags_of-in-None.ensures.flags)
    (rw same at c.flags_of-in-None.ensures.range)
    (rw (none_lent _ _ c.in-None.is c.read_bytes_borrowed_from_reader.follows.holds-at-none) at
    c.in_ok-bytes-in-None.ensures)
