use Rattle.speedy_derived.proofs.generic_enums.PieceWriteCases.write_case.Goals as goal

pub returns-in-Raw : goal.returns-in-Raw
returns-in-Raw g c = rw c.in-Raw.is c.write_value.ensures

pub returns-in-Numbered : goal.returns-in-Numbered
returns-in-Numbered g c = rw c.in-Numbered.is c.write_value-in-Numbered.ensures
