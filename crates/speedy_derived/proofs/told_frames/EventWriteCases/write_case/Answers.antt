use Rattle.speedy.specs.CaseArms.{write_arm}
use Rattle.speedy_derived.specs.contracts.told_frames.EventCasesImpl.TheImpl.{ghosts as cases}
use Rattle.speedy_derived.proofs.told_frames.EventWriteCases.write_case.Goals as goal

pub returns-in-Said : goal.returns-in-Said
returns-in-Said g c =
    write_arm cases g.C.Error.From.from_gives g.W.Writer.state g.W.Writer.appends _ _ _
    c.in-Said.is c.write_value.ensures
