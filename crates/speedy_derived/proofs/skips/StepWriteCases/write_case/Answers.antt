use Rattle.speedy.specs.CaseArms.{write_arm}
use Rattle.speedy_derived.specs.contracts.skips.StepCasesImpl.TheImpl.{ghosts as cases}
use Rattle.speedy_derived.proofs.skips.StepWriteCases.write_case.Goals as goal

pub returns-in-Named : goal.returns-in-Named
returns-in-Named g c =
    write_arm cases g.C.Error.From.from_gives g.W.Writer.state g.W.Writer.appends _ _ _
    c.in-Named.is c.write_value.ensures

pub returns-in-Left : goal.returns-in-Left
returns-in-Left g c =
    write_arm cases g.C.Error.From.from_gives g.W.Writer.state g.W.Writer.appends _ _ _
    c.in-Left.is c.write_value-in-Left.ensures
