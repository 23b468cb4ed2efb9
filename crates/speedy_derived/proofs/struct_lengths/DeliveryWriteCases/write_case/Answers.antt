use Rattle.speedy.specs.CaseArms.{write_arm}
use Rattle.speedy_derived.specs.contracts.struct_lengths.DeliveryCasesImpl.TheImpl.{ghosts as cases}
use Rattle.speedy_derived.proofs.struct_lengths.DeliveryWriteCases.write_case.Goals as goal

pub returns-in-Full : goal.returns-in-Full
returns-in-Full g c =
    write_arm cases g.C.Error.From.from_gives g.W.Writer.state g.W.Writer.appends _ _ _
    c.in-Full.is c.write_value.ensures
