use Rattle.speedy_derived.proofs.generic_enums.LookupWriteCases.write_case.Goals as goal

pub returns-in-Found : goal.returns-in-Found
returns-in-Found g c = rw c.in-Found.is c.write_value.ensures

pub returns-in-All : goal.returns-in-All
returns-in-All g c = rw c.in-All.is c.write_value-in-All.ensures
