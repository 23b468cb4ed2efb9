use Rattle.speedy.specs.CaseArms.{read_arm, read_of}
use Rattle.speedy_derived.specs.contracts.names.MessageCasesImpl.TheImpl.{ghosts as cases}
use Rattle.speedy_derived.proofs.names.MessageReadCases.read_case.Goals as goal

pub returns-in-Ok : goal.returns-in-Ok
returns-in-Ok g c =
    let read = read_of c.in-Ok.is c.read_value.ensures in
    read_arm cases g.C.Error.From.from_gives g.C.Error.IsEof.eof g.R.LendingReader.state _ _ _
    c.in-0.is (read.kept, read.answer)

pub returns-in-Err : goal.returns-in-Err
returns-in-Err g c =
    let read = read_of c.in-Err.is c.read_value.ensures in
    read_arm cases g.C.Error.From.from_gives g.C.Error.IsEof.eof g.R.LendingReader.state _ _ _
    c.in-0.is (read.kept, read.answer)
