use Rattle.speedy_derived.proofs.generic_enums.SeveralWriteCases.write_case.Goals as goal

pub returns-in-One : goal.returns-in-One
returns-in-One g c = rw c.in-One.is c.write_value.ensures

pub returns-in-More : goal.returns-in-More
returns-in-More g c = rw c.in-More.is c.write_value-in-More.ensures
