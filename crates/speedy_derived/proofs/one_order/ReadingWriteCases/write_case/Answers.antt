use Rattle.speedy.specs.CaseArms.{write_arm}
use Rattle.speedy_derived.specs.contracts.one_order.ReadingCasesImpl.TheImpl.{ghosts as cases}
use Rattle.speedy_derived.proofs.one_order.ReadingWriteCases.write_case.Goals as goal

pub returns-in-Network : goal.returns-in-Network
returns-in-Network g c =
    write_arm cases g.C.Error.From.from_gives g.W.Writer.state g.W.Writer.appends _ _ _
    c.in-Network.is c.write_value.ensures

pub returns-in-Device : goal.returns-in-Device
returns-in-Device g c =
    write_arm cases g.C.Error.From.from_gives g.W.Writer.state g.W.Writer.appends _ _ _
    c.in-Device.is c.write_value-in-Device.ensures
