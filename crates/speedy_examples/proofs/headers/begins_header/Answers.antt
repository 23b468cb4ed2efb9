use Rattle.std.proofs.Common.{refl}
use Rattle.speedy_examples.proofs.HeaderLemmas.{constant_begins}
use Rattle.speedy_examples.proofs.headers.begins_header.Goals as goal

pub returns-clause-begins : goal.returns-clause-begins
returns-clause-begins c =
    let read = rw c.new-reader.ensures.state at c.read_constant.ensures.reads in
    constant_begins _ c.read_constant.result refl read
