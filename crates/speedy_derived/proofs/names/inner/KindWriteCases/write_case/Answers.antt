use Rattle.speedy.specs.CaseArms.{write_arm}
use Rattle.speedy_derived.specs.contracts.names.inner.KindCasesImpl.TheImpl.{ghosts as cases}
use Rattle.speedy_derived.proofs.names.inner.KindWriteCases.write_case.Goals as goal

pub returns-in-B : goal.returns-in-B
returns-in-B g c =
    write_arm cases g.C.Error.From.from_gives g.W.Writer.state g.W.Writer.appends _ _ _
    c.in-B.is c.write_value.ensures
