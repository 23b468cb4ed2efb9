use Rattle.speedy.specs.CaseArms.{write_arm}
use Rattle.telemetry.specs.contracts.messages.MessageCasesImpl.TheImpl.{ghosts as cases}
use Rattle.telemetry.proofs.messages.MessageWriteCases.write_case.Goals as goal

pub returns-in-Hello : goal.returns-in-Hello
returns-in-Hello g c =
    write_arm cases g.C.Error.From.from_gives g.W.Writer.state g.W.Writer.appends _ _ _
    c.in-Hello.is c.write_value.ensures

pub returns-in-Measured : goal.returns-in-Measured
returns-in-Measured g c =
    write_arm cases g.C.Error.From.from_gives g.W.Writer.state g.W.Writer.appends _ _ _
    c.in-Measured.is c.write_value-in-Measured.ensures

pub returns-in-Blob : goal.returns-in-Blob
returns-in-Blob g c =
    write_arm cases g.C.Error.From.from_gives g.W.Writer.state g.W.Writer.appends _ _ _
    c.in-Blob.is c.write_value-in-Blob.ensures

pub returns-in-Measurements : goal.returns-in-Measurements
returns-in-Measurements g c =
    write_arm cases g.C.Error.From.from_gives g.W.Writer.state g.W.Writer.appends _ _ _
    c.in-Measurements.is c.write_value-in-Measurements.ensures
