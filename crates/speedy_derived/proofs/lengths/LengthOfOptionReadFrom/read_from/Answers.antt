use Rattle.speedy_derived.proofs.lengths.LengthOfOptionReadFrom.read_from.Goals as goal

pub returns-in-Ok : goal.returns-in-Ok
returns-in-Ok g c =
    let read = rw c.in-Ok.is at c.read_value.ensures in
    let answer = rw c.option_value-data.ensures at read.answer in record { kept = read.kept; answer = answer }
