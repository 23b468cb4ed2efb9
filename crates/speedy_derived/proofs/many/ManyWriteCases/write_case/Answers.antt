use Rattle.std.proofs.Common.{Ok, refl}
use Rattle.speedy.specs.CaseArms.{write_arm}
use Rattle.speedy_derived.specs.contracts.many.ManyCasesImpl.TheImpl.{ghosts as cases}
use Rattle.speedy_derived.proofs.many.ManyWriteCases.write_case.Goals as goal

pub returns-in-Number1 : goal.returns-in-Number1
returns-in-Number1 g c =
    write_arm cases g.C.Error.From.from_gives g.W.Writer.state g.W.Writer.appends _ _ _
    c.in-Number1.is c.write_value.ensures

pub returns-in-Both2 : goal.returns-in-Both2
returns-in-Both2 g c =
    write_arm cases g.C.Error.From.from_gives g.W.Writer.state g.W.Writer.appends _ _ _
    c.in-Both2.is c.write_value-in-Both2.ensures

pub returns-in-Lent3 : goal.returns-in-Lent3
returns-in-Lent3 g c =
    write_arm cases g.C.Error.From.from_gives g.W.Writer.state g.W.Writer.appends _ _ _
    c.in-Lent3.is c.write_value-in-Lent3.ensures

pub returns-in-Text4 : goal.returns-in-Text4
returns-in-Text4 g c =
    write_arm cases g.C.Error.From.from_gives g.W.Writer.state g.W.Writer.appends _ _ _
    c.in-Text4.is c.write_value-in-Text4.ensures

pub returns-in-Bytes5 : goal.returns-in-Bytes5
returns-in-Bytes5 g c =
    write_arm cases g.C.Error.From.from_gives g.W.Writer.state g.W.Writer.appends _ _ _
    c.in-Bytes5.is c.write_value-in-Bytes5.ensures

pub returns-in-List6 : goal.returns-in-List6
returns-in-List6 g c =
    write_arm cases g.C.Error.From.from_gives g.W.Writer.state g.W.Writer.appends _ _ _
    c.in-List6.is c.write_value-in-List6.ensures

pub returns-in-Either7 : goal.returns-in-Either7
returns-in-Either7 g c =
    write_arm cases g.C.Error.From.from_gives g.W.Writer.state g.W.Writer.appends _ _ _
    c.in-Either7.is c.write_value-in-Either7.ensures

pub returns-in-Number9 : goal.returns-in-Number9
returns-in-Number9 g c =
    write_arm cases g.C.Error.From.from_gives g.W.Writer.state g.W.Writer.appends _ _ _
    c.in-Number9.is c.write_value-in-Number9.ensures

pub returns-in-Both10 : goal.returns-in-Both10
returns-in-Both10 g c =
    write_arm cases g.C.Error.From.from_gives g.W.Writer.state g.W.Writer.appends _ _ _
    c.in-Both10.is c.write_value-in-Both10.ensures

pub returns-in-Lent11 : goal.returns-in-Lent11
returns-in-Lent11 g c =
    write_arm cases g.C.Error.From.from_gives g.W.Writer.state g.W.Writer.appends _ _ _
    c.in-Lent11.is c.write_value-in-Lent11.ensures

pub returns-in-Text12 : goal.returns-in-Text12
returns-in-Text12 g c =
    write_arm cases g.C.Error.From.from_gives g.W.Writer.state g.W.Writer.appends _ _ _
    c.in-Text12.is c.write_value-in-Text12.ensures

pub returns-in-Bytes13 : goal.returns-in-Bytes13
returns-in-Bytes13 g c =
    write_arm cases g.C.Error.From.from_gives g.W.Writer.state g.W.Writer.appends _ _ _
    c.in-Bytes13.is c.write_value-in-Bytes13.ensures

pub returns-in-List14 : goal.returns-in-List14
returns-in-List14 g c =
    write_arm cases g.C.Error.From.from_gives g.W.Writer.state g.W.Writer.appends _ _ _
    c.in-List14.is c.write_value-in-List14.ensures

pub returns-in-Either15 : goal.returns-in-Either15
returns-in-Either15 g c =
    write_arm cases g.C.Error.From.from_gives g.W.Writer.state g.W.Writer.appends _ _ _
    c.in-Either15.is c.write_value-in-Either15.ensures

pub returns-in-Number17 : goal.returns-in-Number17
returns-in-Number17 g c =
    write_arm cases g.C.Error.From.from_gives g.W.Writer.state g.W.Writer.appends _ _ _
    c.in-Number17.is c.write_value-in-Number17.ensures

pub returns-in-Both18 : goal.returns-in-Both18
returns-in-Both18 g c =
    write_arm cases g.C.Error.From.from_gives g.W.Writer.state g.W.Writer.appends _ _ _
    c.in-Both18.is c.write_value-in-Both18.ensures

pub returns-in-Lent19 : goal.returns-in-Lent19
returns-in-Lent19 g c =
    write_arm cases g.C.Error.From.from_gives g.W.Writer.state g.W.Writer.appends _ _ _
    c.in-Lent19.is c.write_value-in-Lent19.ensures

pub returns-in-Text20 : goal.returns-in-Text20
returns-in-Text20 g c =
    write_arm cases g.C.Error.From.from_gives g.W.Writer.state g.W.Writer.appends _ _ _
    c.in-Text20.is c.write_value-in-Text20.ensures

pub returns-in-Bytes21 : goal.returns-in-Bytes21
returns-in-Bytes21 g c =
    write_arm cases g.C.Error.From.from_gives g.W.Writer.state g.W.Writer.appends _ _ _
    c.in-Bytes21.is c.write_value-in-Bytes21.ensures

pub returns-in-List22 : goal.returns-in-List22
returns-in-List22 g c =
    write_arm cases g.C.Error.From.from_gives g.W.Writer.state g.W.Writer.appends _ _ _
    c.in-List22.is c.write_value-in-List22.ensures

pub returns-in-Either23 : goal.returns-in-Either23
returns-in-Either23 g c =
    write_arm cases g.C.Error.From.from_gives g.W.Writer.state g.W.Writer.appends _ _ _
    c.in-Either23.is c.write_value-in-Either23.ensures

pub returns-in-Nothing0 : goal.returns-in-Nothing0
returns-in-Nothing0 g c =
    write_arm cases g.C.Error.From.from_gives g.W.Writer.state g.W.Writer.appends (Ok tt) _ _
    c.in-Nothing0.is (refl, refl)

pub returns-in-Nothing8 : goal.returns-in-Nothing8
returns-in-Nothing8 g c =
    write_arm cases g.C.Error.From.from_gives g.W.Writer.state g.W.Writer.appends (Ok tt) _ _
    c.in-Nothing8.is (refl, refl)

pub returns-in-Nothing16 : goal.returns-in-Nothing16
returns-in-Nothing16 g c =
    write_arm cases g.C.Error.From.from_gives g.W.Writer.state g.W.Writer.appends (Ok tt) _ _
    c.in-Nothing16.is (refl, refl)
