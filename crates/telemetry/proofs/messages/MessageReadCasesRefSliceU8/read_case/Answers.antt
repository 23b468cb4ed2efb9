use Rattle.std.proofs.Common.{rules}
use Rattle.speedy.specs.CaseArms.{read_arm, read_of}
use Rattle.telemetry.specs.contracts.messages.MessageCasesImpl.TheImpl.{ghosts as cases}
use Rattle.telemetry.proofs.messages.MessageReadCasesRefSliceU8.read_case.Goals as goal

pub returns-in-Ok : goal.returns-in-Ok
returns-in-Ok g c =
    let read = read_of c.in-Ok.is c.read_value.ensures in
    read_arm cases g.C.Error.From.from_gives g.C.Error.IsEof.eof g.R.LendingReader.state _ _ _
    c.in-2.is (read.kept, search (rules, read.answer))

pub returns-in-Err : goal.returns-in-Err
returns-in-Err g c =
    let read = read_of c.in-Err.is c.read_value.ensures in
    read_arm cases g.C.Error.From.from_gives g.C.Error.IsEof.eof g.R.LendingReader.state _ _ _
    c.in-2.is (read.kept, read.answer)

pub returns-in-Ok-read_value : goal.returns-in-Ok-read_value
returns-in-Ok-read_value g c =
    let read = read_of c.in-Ok-read_value.is c.read_value-in-3.ensures in
    read_arm cases g.C.Error.From.from_gives g.C.Error.IsEof.eof g.R.LendingReader.state _ _ _
    c.in-3.is (read.kept, read.answer)

pub returns-in-Err-read_value : goal.returns-in-Err-read_value
returns-in-Err-read_value g c =
    let read = read_of c.in-Err-read_value.is c.read_value-in-3.ensures in
    read_arm cases g.C.Error.From.from_gives g.C.Error.IsEof.eof g.R.LendingReader.state _ _ _
    c.in-3.is (read.kept, read.answer)

pub returns-in-Ok-read_value-2 : goal.returns-in-Ok-read_value-2
returns-in-Ok-read_value-2 g c =
    let read = read_of c.in-Ok-read_value-2.is c.read_value-in-4.ensures in
    read_arm cases g.C.Error.From.from_gives g.C.Error.IsEof.eof g.R.LendingReader.state _ _ _
    c.in-4.is (read.kept, read.answer)

pub returns-in-Err-read_value-2 : goal.returns-in-Err-read_value-2
returns-in-Err-read_value-2 g c =
    let read = read_of c.in-Err-read_value-2.is c.read_value-in-4.ensures in
    read_arm cases g.C.Error.From.from_gives g.C.Error.IsEof.eof g.R.LendingReader.state _ _ _
    c.in-4.is (read.kept, read.answer)

pub returns-in-Ok-read_value-3 : goal.returns-in-Ok-read_value-3
returns-in-Ok-read_value-3 g c =
    let read = read_of c.in-Ok-read_value-3.is c.read_value-in-5.ensures in
    read_arm cases g.C.Error.From.from_gives g.C.Error.IsEof.eof g.R.LendingReader.state _ _ _
    c.in-5.is (read.kept, read.answer)

pub returns-in-Err-read_value-3 : goal.returns-in-Err-read_value-3
returns-in-Err-read_value-3 g c =
    let read = read_of c.in-Err-read_value-3.is c.read_value-in-5.ensures in
    read_arm cases g.C.Error.From.from_gives g.C.Error.IsEof.eof g.R.LendingReader.state _ _ _
    c.in-5.is (read.kept, read.answer)
