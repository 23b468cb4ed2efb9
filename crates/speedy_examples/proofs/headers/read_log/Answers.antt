use Rattle.std.proofs.Common.{refl}
use Rattle.speedy.specs.UntilEnd.{prefix_until_end}
use Rattle.speedy_examples.proofs.headers.read_log.Goals as goal

pub returns : goal.returns
returns c =
    let read = rw c.new-reader.ensures.state at c.read_vec_until_eof.ensures in
    record { records = prefix_until_end (λ records. records.items) refl refl read; until_end = (_, read) }
