use Rattle.std.proofs.Common.{◌∙◌, refl}
use Rattle.std.proofs.lemmas.List.{map-id}
use Rattle.speedy_read.specs.ReadingLemmas.{refused_as, got_as}
use Rattle.speedy_read.proofs.LentLemmas.{cow_lent}
use Rattle.speedy_read.proofs.ListLemmas.{refused_room}
use Rattle.speedy_read.proofs.bulk.read_bytes_lent.Goals as goal

pub returns-in-Some : goal.returns-in-Some
returns-in-Some g c = got_as (map-id _ ∙ c.in-Some.ensures)
    (cow_lent _ _ (rw c.as_slice.ensures at c.bytes_in_range.ensures)
    (rw c.in-Some-Ok.field-0-is at c.in-Some-Ok.ensures.1))

pub returns-in-None-from_lent : goal.returns-in-None-from_lent
returns-in-None-from_lent g c = refused_room _ _ _ (rw c.in-Some-Ok.field-0-is at c.in-Some-Ok.ensures.1).kept
    (rw c.in-Some-Ok.field-0-is at c.in-Some-Ok.ensures.1).answer.no_fault refl c.error_out_of_memory.ensures

pub returns-in-Some-Err : goal.returns-in-Some-Err
returns-in-Some-Err g c = refused_as refl (cow_lent _ _ tt (rw c.in-Some-Err.field-0-is at c.in-Some-Err.ensures.1))

pub returns-in_ok-read_bytes_copied-in-None : goal.returns-in_ok-read_bytes_copied-in-None
returns-in_ok-read_bytes_copied-in-None g c =
    got_as (map-id _) (rw c.in-None.ensures.1 at c.in_ok-read_bytes_copied-in-None.ensures)

pub returns-in_err-read_bytes_copied-in-None : goal.returns-in_err-read_bytes_copied-in-None
returns-in_err-read_bytes_copied-in-None g c =
    refused_as c.from_residual.ensures.1 (rw c.in-None.ensures.1 at c.in_err-read_bytes_copied-in-None.ensures)
