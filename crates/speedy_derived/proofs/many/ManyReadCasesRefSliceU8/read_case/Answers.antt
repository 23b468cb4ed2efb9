use Rattle.std.proofs.Common.{refl}
use Rattle.speedy.specs.CaseArms.{read_arm, read_of}
use Rattle.speedy_derived.specs.contracts.many.ManyCasesImpl.TheImpl.{ghosts as cases}
use Rattle.speedy_derived.proofs.many.ManyReadCasesRefSliceU8.read_case.Goals as goal

pub returns-in-Ok : goal.returns-in-Ok
returns-in-Ok g c =
    let read = read_of c.in-Ok.is c.read_value.ensures in
    read_arm cases g.C.Error.From.from_gives g.C.Error.IsEof.eof g.R.LendingReader.state _ _ _
    c.in-7.is (read.kept, read.answer)

pub returns-in-Err : goal.returns-in-Err
returns-in-Err g c =
    let read = read_of c.in-Err.is c.read_value.ensures in
    read_arm cases g.C.Error.From.from_gives g.C.Error.IsEof.eof g.R.LendingReader.state _ _ _
    c.in-7.is (read.kept, read.answer)

pub returns-in-Ok-read_value : goal.returns-in-Ok-read_value
returns-in-Ok-read_value g c =
    let read = read_of c.in-Ok-read_value.is c.read_value-in-11.ensures in
    read_arm cases g.C.Error.From.from_gives g.C.Error.IsEof.eof g.R.LendingReader.state _ _ _
    c.in-11.is (read.kept, read.answer)

pub returns-in-Err-read_value : goal.returns-in-Err-read_value
returns-in-Err-read_value g c =
    let read = read_of c.in-Err-read_value.is c.read_value-in-11.ensures in
    read_arm cases g.C.Error.From.from_gives g.C.Error.IsEof.eof g.R.LendingReader.state _ _ _
    c.in-11.is (read.kept, read.answer)

pub returns-in-Ok-read_value-2 : goal.returns-in-Ok-read_value-2
returns-in-Ok-read_value-2 g c =
    let read = read_of c.in-Ok-read_value-2.is c.read_value-in-15.ensures in
    read_arm cases g.C.Error.From.from_gives g.C.Error.IsEof.eof g.R.LendingReader.state _ _ _
    c.in-15.is (read.kept, read.answer)

pub returns-in-Err-read_value-2 : goal.returns-in-Err-read_value-2
returns-in-Err-read_value-2 g c =
    let read = read_of c.in-Err-read_value-2.is c.read_value-in-15.ensures in
    read_arm cases g.C.Error.From.from_gives g.C.Error.IsEof.eof g.R.LendingReader.state _ _ _
    c.in-15.is (read.kept, read.answer)

pub returns-in-Ok-read_value-3 : goal.returns-in-Ok-read_value-3
returns-in-Ok-read_value-3 g c =
    let read = read_of c.in-Ok-read_value-3.is c.read_value-in-19.ensures in
    read_arm cases g.C.Error.From.from_gives g.C.Error.IsEof.eof g.R.LendingReader.state _ _ _
    c.in-19.is (read.kept, read.answer)

pub returns-in-Err-read_value-3 : goal.returns-in-Err-read_value-3
returns-in-Err-read_value-3 g c =
    let read = read_of c.in-Err-read_value-3.is c.read_value-in-19.ensures in
    read_arm cases g.C.Error.From.from_gives g.C.Error.IsEof.eof g.R.LendingReader.state _ _ _
    c.in-19.is (read.kept, read.answer)

pub returns-in-Ok-read_value-4 : goal.returns-in-Ok-read_value-4
returns-in-Ok-read_value-4 g c =
    let read = read_of c.in-Ok-read_value-4.is c.read_value-in-23.ensures in
    read_arm cases g.C.Error.From.from_gives g.C.Error.IsEof.eof g.R.LendingReader.state _ _ _
    c.in-23.is (read.kept, read.answer)

pub returns-in-Err-read_value-4 : goal.returns-in-Err-read_value-4
returns-in-Err-read_value-4 g c =
    let read = read_of c.in-Err-read_value-4.is c.read_value-in-23.ensures in
    read_arm cases g.C.Error.From.from_gives g.C.Error.IsEof.eof g.R.LendingReader.state _ _ _
    c.in-23.is (read.kept, read.answer)

pub returns-in-Ok-read_value-5 : goal.returns-in-Ok-read_value-5
returns-in-Ok-read_value-5 g c =
    let read = read_of c.in-Ok-read_value-5.is c.read_value-in-27.ensures in
    read_arm cases g.C.Error.From.from_gives g.C.Error.IsEof.eof g.R.LendingReader.state _ _ _
    c.in-27.is (read.kept, read.answer)

pub returns-in-Err-read_value-5 : goal.returns-in-Err-read_value-5
returns-in-Err-read_value-5 g c =
    let read = read_of c.in-Err-read_value-5.is c.read_value-in-27.ensures in
    read_arm cases g.C.Error.From.from_gives g.C.Error.IsEof.eof g.R.LendingReader.state _ _ _
    c.in-27.is (read.kept, read.answer)

pub returns-in-Ok-read_value-6 : goal.returns-in-Ok-read_value-6
returns-in-Ok-read_value-6 g c =
    let read = read_of c.in-Ok-read_value-6.is c.read_value-in-31.ensures in
    read_arm cases g.C.Error.From.from_gives g.C.Error.IsEof.eof g.R.LendingReader.state _ _ _
    c.in-31.is (read.kept, read.answer)

pub returns-in-Err-read_value-6 : goal.returns-in-Err-read_value-6
returns-in-Err-read_value-6 g c =
    let read = read_of c.in-Err-read_value-6.is c.read_value-in-31.ensures in
    read_arm cases g.C.Error.From.from_gives g.C.Error.IsEof.eof g.R.LendingReader.state _ _ _
    c.in-31.is (read.kept, read.answer)

pub returns-in-Ok-read_value-7 : goal.returns-in-Ok-read_value-7
returns-in-Ok-read_value-7 g c =
    let read = read_of c.in-Ok-read_value-7.is c.read_value-in-39.ensures in
    read_arm cases g.C.Error.From.from_gives g.C.Error.IsEof.eof g.R.LendingReader.state _ _ _
    c.in-39.is (read.kept, read.answer)

pub returns-in-Err-read_value-7 : goal.returns-in-Err-read_value-7
returns-in-Err-read_value-7 g c =
    let read = read_of c.in-Err-read_value-7.is c.read_value-in-39.ensures in
    read_arm cases g.C.Error.From.from_gives g.C.Error.IsEof.eof g.R.LendingReader.state _ _ _
    c.in-39.is (read.kept, read.answer)

pub returns-in-Ok-read_value-8 : goal.returns-in-Ok-read_value-8
returns-in-Ok-read_value-8 g c =
    let read = read_of c.in-Ok-read_value-8.is c.read_value-in-43.ensures in
    read_arm cases g.C.Error.From.from_gives g.C.Error.IsEof.eof g.R.LendingReader.state _ _ _
    c.in-43.is (read.kept, read.answer)

pub returns-in-Err-read_value-8 : goal.returns-in-Err-read_value-8
returns-in-Err-read_value-8 g c =
    let read = read_of c.in-Err-read_value-8.is c.read_value-in-43.ensures in
    read_arm cases g.C.Error.From.from_gives g.C.Error.IsEof.eof g.R.LendingReader.state _ _ _
    c.in-43.is (read.kept, read.answer)

pub returns-in-Ok-read_value-9 : goal.returns-in-Ok-read_value-9
returns-in-Ok-read_value-9 g c =
    let read = read_of c.in-Ok-read_value-9.is c.read_value-in-47.ensures in
    read_arm cases g.C.Error.From.from_gives g.C.Error.IsEof.eof g.R.LendingReader.state _ _ _
    c.in-47.is (read.kept, read.answer)

pub returns-in-Err-read_value-9 : goal.returns-in-Err-read_value-9
returns-in-Err-read_value-9 g c =
    let read = read_of c.in-Err-read_value-9.is c.read_value-in-47.ensures in
    read_arm cases g.C.Error.From.from_gives g.C.Error.IsEof.eof g.R.LendingReader.state _ _ _
    c.in-47.is (read.kept, read.answer)

pub returns-in-Ok-read_value-10 : goal.returns-in-Ok-read_value-10
returns-in-Ok-read_value-10 g c =
    let read = read_of c.in-Ok-read_value-10.is c.read_value-in-51.ensures in
    read_arm cases g.C.Error.From.from_gives g.C.Error.IsEof.eof g.R.LendingReader.state _ _ _
    c.in-51.is (read.kept, read.answer)

pub returns-in-Err-read_value-10 : goal.returns-in-Err-read_value-10
returns-in-Err-read_value-10 g c =
    let read = read_of c.in-Err-read_value-10.is c.read_value-in-51.ensures in
    read_arm cases g.C.Error.From.from_gives g.C.Error.IsEof.eof g.R.LendingReader.state _ _ _
    c.in-51.is (read.kept, read.answer)

pub returns-in-Ok-read_value-11 : goal.returns-in-Ok-read_value-11
returns-in-Ok-read_value-11 g c =
    let read = read_of c.in-Ok-read_value-11.is c.read_value-in-55.ensures in
    read_arm cases g.C.Error.From.from_gives g.C.Error.IsEof.eof g.R.LendingReader.state _ _ _
    c.in-55.is (read.kept, read.answer)

pub returns-in-Err-read_value-11 : goal.returns-in-Err-read_value-11
returns-in-Err-read_value-11 g c =
    let read = read_of c.in-Err-read_value-11.is c.read_value-in-55.ensures in
    read_arm cases g.C.Error.From.from_gives g.C.Error.IsEof.eof g.R.LendingReader.state _ _ _
    c.in-55.is (read.kept, read.answer)

pub returns-in-Ok-read_value-12 : goal.returns-in-Ok-read_value-12
returns-in-Ok-read_value-12 g c =
    let read = read_of c.in-Ok-read_value-12.is c.read_value-in-59.ensures in
    read_arm cases g.C.Error.From.from_gives g.C.Error.IsEof.eof g.R.LendingReader.state _ _ _
    c.in-59.is (read.kept, read.answer)

pub returns-in-Err-read_value-12 : goal.returns-in-Err-read_value-12
returns-in-Err-read_value-12 g c =
    let read = read_of c.in-Err-read_value-12.is c.read_value-in-59.ensures in
    read_arm cases g.C.Error.From.from_gives g.C.Error.IsEof.eof g.R.LendingReader.state _ _ _
    c.in-59.is (read.kept, read.answer)

pub returns-in-Ok-read_value-13 : goal.returns-in-Ok-read_value-13
returns-in-Ok-read_value-13 g c =
    let read = read_of c.in-Ok-read_value-13.is c.read_value-in-63.ensures in
    read_arm cases g.C.Error.From.from_gives g.C.Error.IsEof.eof g.R.LendingReader.state _ _ _
    c.in-63.is (read.kept, read.answer)

pub returns-in-Err-read_value-13 : goal.returns-in-Err-read_value-13
returns-in-Err-read_value-13 g c =
    let read = read_of c.in-Err-read_value-13.is c.read_value-in-63.ensures in
    read_arm cases g.C.Error.From.from_gives g.C.Error.IsEof.eof g.R.LendingReader.state _ _ _
    c.in-63.is (read.kept, read.answer)

pub returns-in-Ok-read_value-14 : goal.returns-in-Ok-read_value-14
returns-in-Ok-read_value-14 g c =
    let read = read_of c.in-Ok-read_value-14.is c.read_value-in-71.ensures in
    read_arm cases g.C.Error.From.from_gives g.C.Error.IsEof.eof g.R.LendingReader.state _ _ _
    c.in-71.is (read.kept, read.answer)

pub returns-in-Err-read_value-14 : goal.returns-in-Err-read_value-14
returns-in-Err-read_value-14 g c =
    let read = read_of c.in-Err-read_value-14.is c.read_value-in-71.ensures in
    read_arm cases g.C.Error.From.from_gives g.C.Error.IsEof.eof g.R.LendingReader.state _ _ _
    c.in-71.is (read.kept, read.answer)

pub returns-in-Ok-read_value-15 : goal.returns-in-Ok-read_value-15
returns-in-Ok-read_value-15 g c =
    let read = read_of c.in-Ok-read_value-15.is c.read_value-in-75.ensures in
    read_arm cases g.C.Error.From.from_gives g.C.Error.IsEof.eof g.R.LendingReader.state _ _ _
    c.in-75.is (read.kept, read.answer)

pub returns-in-Err-read_value-15 : goal.returns-in-Err-read_value-15
returns-in-Err-read_value-15 g c =
    let read = read_of c.in-Err-read_value-15.is c.read_value-in-75.ensures in
    read_arm cases g.C.Error.From.from_gives g.C.Error.IsEof.eof g.R.LendingReader.state _ _ _
    c.in-75.is (read.kept, read.answer)

pub returns-in-Ok-read_value-16 : goal.returns-in-Ok-read_value-16
returns-in-Ok-read_value-16 g c =
    let read = read_of c.in-Ok-read_value-16.is c.read_value-in-79.ensures in
    read_arm cases g.C.Error.From.from_gives g.C.Error.IsEof.eof g.R.LendingReader.state _ _ _
    c.in-79.is (read.kept, read.answer)

pub returns-in-Err-read_value-16 : goal.returns-in-Err-read_value-16
returns-in-Err-read_value-16 g c =
    let read = read_of c.in-Err-read_value-16.is c.read_value-in-79.ensures in
    read_arm cases g.C.Error.From.from_gives g.C.Error.IsEof.eof g.R.LendingReader.state _ _ _
    c.in-79.is (read.kept, read.answer)

pub returns-in-Ok-read_value-17 : goal.returns-in-Ok-read_value-17
returns-in-Ok-read_value-17 g c =
    let read = read_of c.in-Ok-read_value-17.is c.read_value-in-83.ensures in
    read_arm cases g.C.Error.From.from_gives g.C.Error.IsEof.eof g.R.LendingReader.state _ _ _
    c.in-83.is (read.kept, read.answer)

pub returns-in-Err-read_value-17 : goal.returns-in-Err-read_value-17
returns-in-Err-read_value-17 g c =
    let read = read_of c.in-Err-read_value-17.is c.read_value-in-83.ensures in
    read_arm cases g.C.Error.From.from_gives g.C.Error.IsEof.eof g.R.LendingReader.state _ _ _
    c.in-83.is (read.kept, read.answer)

pub returns-in-Ok-read_value-18 : goal.returns-in-Ok-read_value-18
returns-in-Ok-read_value-18 g c =
    let read = read_of c.in-Ok-read_value-18.is c.read_value-in-87.ensures in
    read_arm cases g.C.Error.From.from_gives g.C.Error.IsEof.eof g.R.LendingReader.state _ _ _
    c.in-87.is (read.kept, read.answer)

pub returns-in-Err-read_value-18 : goal.returns-in-Err-read_value-18
returns-in-Err-read_value-18 g c =
    let read = read_of c.in-Err-read_value-18.is c.read_value-in-87.ensures in
    read_arm cases g.C.Error.From.from_gives g.C.Error.IsEof.eof g.R.LendingReader.state _ _ _
    c.in-87.is (read.kept, read.answer)

pub returns-in-Ok-read_value-19 : goal.returns-in-Ok-read_value-19
returns-in-Ok-read_value-19 g c =
    let read = read_of c.in-Ok-read_value-19.is c.read_value-in-91.ensures in
    read_arm cases g.C.Error.From.from_gives g.C.Error.IsEof.eof g.R.LendingReader.state _ _ _
    c.in-91.is (read.kept, read.answer)

pub returns-in-Err-read_value-19 : goal.returns-in-Err-read_value-19
returns-in-Err-read_value-19 g c =
    let read = read_of c.in-Err-read_value-19.is c.read_value-in-91.ensures in
    read_arm cases g.C.Error.From.from_gives g.C.Error.IsEof.eof g.R.LendingReader.state _ _ _
    c.in-91.is (read.kept, read.answer)

pub returns-in-Ok-read_value-20 : goal.returns-in-Ok-read_value-20
returns-in-Ok-read_value-20 g c =
    let read = read_of c.in-Ok-read_value-20.is c.read_value-in-95.ensures in
    read_arm cases g.C.Error.From.from_gives g.C.Error.IsEof.eof g.R.LendingReader.state _ _ _
    c.in-95.is (read.kept, read.answer)

pub returns-in-Err-read_value-20 : goal.returns-in-Err-read_value-20
returns-in-Err-read_value-20 g c =
    let read = read_of c.in-Err-read_value-20.is c.read_value-in-95.ensures in
    read_arm cases g.C.Error.From.from_gives g.C.Error.IsEof.eof g.R.LendingReader.state _ _ _
    c.in-95.is (read.kept, read.answer)

pub returns-in-3 : goal.returns-in-3
returns-in-3 g c =
    read_arm cases g.C.Error.From.from_gives g.C.Error.IsEof.eof g.R.LendingReader.state _ _ _
    c.in-3.is (tt, refl)

pub returns-in-35 : goal.returns-in-35
returns-in-35 g c =
    read_arm cases g.C.Error.From.from_gives g.C.Error.IsEof.eof g.R.LendingReader.state _ _ _
    c.in-35.is (tt, refl)

pub returns-in-67 : goal.returns-in-67
returns-in-67 g c =
    read_arm cases g.C.Error.From.from_gives g.C.Error.IsEof.eof g.R.LendingReader.state _ _ _
    c.in-67.is (tt, refl)
