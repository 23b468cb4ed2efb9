use Rattle.speedy.specs.CaseArms.{write_arm}
use Rattle.speedy_derived.specs.contracts.lengths.LengthsInCasesCasesImpl.TheImpl.{ghosts as cases}
use Rattle.speedy_derived.proofs.lengths.LengthsInCasesWriteCases.write_case.Goals as goal

pub returns-in-B : goal.returns-in-B
returns-in-B g c =
    let before = c.write_value.ensures in
    let answer = rw c.lent_option-t0.ensures at before.answer in
    write_arm cases g.C.Error.From.from_gives g.W.Writer.state g.W.Writer.appends _ _ _
    c.in-B.is (record { kept = before.kept; answer = answer })

pub returns-in-C : goal.returns-in-C
returns-in-C g c =
    let before = c.write_value-in-C.ensures in
    let answer = rw c.lent_option-held.ensures at before.answer in
    write_arm cases g.C.Error.From.from_gives g.W.Writer.state g.W.Writer.appends _ _ _
    c.in-C.is (record { kept = before.kept; answer = answer })
