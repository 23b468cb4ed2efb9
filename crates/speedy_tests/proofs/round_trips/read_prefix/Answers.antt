use Rattle.std.proofs.Common.{refl, ◌∙◌, ap, length, arith, rules}
use Rattle.speedy_tests.proofs.round_trips.read_prefix.Goals as goal

pub returns-clause-same : goal.returns-clause-same
returns-clause-same g c = λ v prefix rest written whole.
    let read = c.written_is_read.ensures.made written whole c.new-reader.ensures.state refl c.in_ok-value.ensures in
    (read.same, c.len.ensures ∙ ap length read.rest_is)

pub returns-in_err-value-clause-refused : goal.returns-in_err-value-clause-refused
returns-in_err-value-clause-refused g c = λ v prefix rest written whole.
    let read = c.written_is_read.ensures.made written whole c.new-reader.ensures.state refl c.in_err-value.ensures in
    let given = read.refused c.type_inv.bytes (omega arith) in search rules
