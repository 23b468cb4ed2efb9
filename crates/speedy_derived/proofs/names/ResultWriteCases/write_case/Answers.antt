use Rattle.speedy.specs.CaseArms.{write_arm}
use Rattle.speedy_derived.specs.contracts.names.ResultCasesImpl.TheImpl.{ghosts as cases}
use Rattle.speedy_derived.proofs.names.ResultWriteCases.write_case.Goals as goal

pub returns-in-Fail : goal.returns-in-Fail
returns-in-Fail g c =
    write_arm cases g.C.Error.From.from_gives g.W.Writer.state g.W.Writer.appends _ _ _
    c.in-Fail.is c.write_value.ensures
