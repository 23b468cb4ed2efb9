use Rattle.speedy.specs.CaseArms.{write_arm}
use Rattle.protocol.specs.contracts.messages.MessageCasesImpl.TheImpl.{ghosts as cases}
use Rattle.protocol.proofs.messages.MessageWriteCases.write_case.Goals as goal

pub returns-in-Hello : goal.returns-in-Hello
returns-in-Hello g c =
    write_arm cases g.C.Error.From.from_gives g.W.Writer.state g.W.Writer.appends _ _ _
    c.in-Hello.is c.write_value.ensures

pub returns-in-Readings : goal.returns-in-Readings
returns-in-Readings g c =
    write_arm cases g.C.Error.From.from_gives g.W.Writer.state g.W.Writer.appends _ _ _
    c.in-Readings.is c.write_value-in-Readings.ensures

pub returns-in-Blob : goal.returns-in-Blob
returns-in-Blob g c =
    write_arm cases g.C.Error.From.from_gives g.W.Writer.state g.W.Writer.appends _ _ _
    c.in-Blob.is c.write_value-in-Blob.ensures

pub returns-in-Failure : goal.returns-in-Failure
returns-in-Failure g c =
    write_arm cases g.C.Error.From.from_gives g.W.Writer.state g.W.Writer.appends _ _ _
    c.in-Failure.is c.write_value-in-Failure.ensures
