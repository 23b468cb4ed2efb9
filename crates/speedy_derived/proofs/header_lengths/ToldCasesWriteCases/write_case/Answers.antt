use Rattle.speedy.specs.CaseArms.{write_arm}
use Rattle.speedy_derived.specs.contracts.header_lengths.ToldCasesCasesImpl.TheImpl.{ghosts as cases}
use Rattle.speedy_derived.proofs.header_lengths.ToldCasesWriteCases.write_case.Goals as goal

pub returns-in-Words : goal.returns-in-Words
returns-in-Words g c =
    write_arm cases g.C.Error.From.from_gives g.W.Writer.state g.W.Writer.appends _ _ _
    c.in-Words.is c.write_value.ensures

pub returns-in-Fixed : goal.returns-in-Fixed
returns-in-Fixed g c =
    write_arm cases g.C.Error.From.from_gives g.W.Writer.state g.W.Writer.appends _ _ _
    c.in-Fixed.is c.write_value-in-Fixed.ensures
