use Rattle.std.proofs.Common.{refl}
use Rattle.speedy_examples.proofs.memory.read_slice.Goals as goal

pub returns-clause-written : goal.returns-clause-written
returns-clause-written g c = λ items bytes rest written number tells remaining.
    c.written_items_are_read.ensures.told bytes written number tells refl remaining c.read_vec.ensures.reads
