use Rattle.std.proofs.Common.{[], arith, refl}
use Rattle.std.proofs.lemmas.List.{map-id}
use Rattle.speedy_read.specs.ReadingLemmas.{got_as, none_so_far}
use Rattle.speedy_read.proofs.ByteLemmas.{all_bytes, bytes_refused, more_bytes}
use Rattle.speedy_read.proofs.bulk.BytesFillsU8.fill.Goals as goal

pub returns : goal.returns
returns g c =
    let places = c.read_bytes.new.output in
    got_as {seen = λ (_ : Unit {0}). places} (map-id places)
    (all_bytes {seen' = λ (_ : Unit {0}). places} {y = tt} _
    (more_bytes _ [] places (none_so_far refl) c.in_ok-read_bytes.ensures refl) c.read_bytes.auto.output
    c.bytes_in_range.ensures)

pub returns-in_err-read_bytes : goal.returns-in_err-read_bytes
returns-in_err-read_bytes g c =
    bytes_refused _ _ 0 [] refl (omega arith) (none_so_far refl) c.from_residual.ensures.1 c.in_err-read_bytes.ensures
