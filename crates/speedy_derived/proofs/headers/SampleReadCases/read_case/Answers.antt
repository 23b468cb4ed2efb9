use Rattle.std.proofs.Common.{rules}
use Rattle.speedy.specs.CaseArms.{read_arm, read_of}
use Rattle.speedy_derived.specs.contracts.headers.SampleCasesImpl.TheImpl.{ghosts as cases}
use Rattle.speedy_derived.proofs.headers.SampleReadCases.read_case.Goals as goal

pub returns-in-Ok : goal.returns-in-Ok
returns-in-Ok g c =
    let read = read_of c.in-Ok.is c.read_value.ensures in
    let held = (rw c.in-Ok.is at c.read_value.type_inv).1.1.1.1.1.0 in
    read_arm cases g.C.Error.From.from_gives g.C.Error.IsEof.eof g.R.LendingReader.state _ _ _
    c.in-0.is (read.kept, search (rules, read.answer, held.1.1.1.0))

pub returns-in-Err : goal.returns-in-Err
returns-in-Err g c =
    let read = read_of c.in-Err.is c.read_value.ensures in
    read_arm cases g.C.Error.From.from_gives g.C.Error.IsEof.eof g.R.LendingReader.state _ _ _
    c.in-0.is (read.kept, read.answer)

pub returns-in-Ok-read_value : goal.returns-in-Ok-read_value
returns-in-Ok-read_value g c =
    let read = read_of c.in-Ok-read_value.is c.read_value-in-1.ensures in
    read_arm cases g.C.Error.From.from_gives g.C.Error.IsEof.eof g.R.LendingReader.state _ _ _
    c.in-1.is (read.kept, search (rules, read.answer))

pub returns-in-Err-read_value : goal.returns-in-Err-read_value
returns-in-Err-read_value g c =
    let read = read_of c.in-Err-read_value.is c.read_value-in-1.ensures in
    read_arm cases g.C.Error.From.from_gives g.C.Error.IsEof.eof g.R.LendingReader.state _ _ _
    c.in-1.is (read.kept, read.answer)
