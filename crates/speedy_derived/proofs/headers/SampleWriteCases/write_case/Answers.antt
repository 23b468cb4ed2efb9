use Rattle.speedy.specs.CaseArms.{write_arm}
use Rattle.speedy_derived.specs.contracts.headers.SampleCasesImpl.TheImpl.{ghosts as cases}
use Rattle.speedy_derived.proofs.headers.SampleWriteCases.write_case.Goals as goal

pub returns-in-Load : goal.returns-in-Load
returns-in-Load g c =
    write_arm cases g.C.Error.From.from_gives g.W.Writer.state g.W.Writer.appends _ _ _
    c.in-Load.is c.write_value.ensures

pub returns-in-Named : goal.returns-in-Named
returns-in-Named g c =
    write_arm cases g.C.Error.From.from_gives g.W.Writer.state g.W.Writer.appends _ _ _
    c.in-Named.is c.write_value-in-Named.ensures
