use Rattle.std.proofs.Common.{rules}
use Rattle.speedy_derived.proofs.endings.SignedReadFrom.read_from.Goals as goal

pub returns-in-Ok : goal.returns-in-Ok
returns-in-Ok g c =
    let read = rw c.in-Ok.is at c.read_value.ensures in
    let held = (rw c.in-Ok.is at c.read_value.type_inv).1.1.1.1.1.0 in
    record {
      kept = read.kept;
      answer = search (rules, read.answer, held.1.1.0.1.1.0.1.1.0, held.1.1.0.1.1.0.1.1.1.0, held.1.1.0.1.1.1.0.1.1.0);
    }
