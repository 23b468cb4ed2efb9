use Rattle.std.proofs.Common.{refl}
use Rattle.speedy.specs.CaseArms.{tag_arm}
use Rattle.speedy_derived.specs.contracts.many.ManyCasesImpl.TheImpl.{ghosts as cases}
use Rattle.speedy_derived.proofs.many.ManyWriteCases.tag.Goals as goal

pub returns-in-Nothing0 : goal.returns-in-Nothing0
returns-in-Nothing0 g c = tag_arm cases _ c.in-Nothing0.is refl

pub returns-in-Number1 : goal.returns-in-Number1
returns-in-Number1 g c = tag_arm cases _ c.in-Number1.is refl

pub returns-in-Both2 : goal.returns-in-Both2
returns-in-Both2 g c = tag_arm cases _ c.in-Both2.is refl

pub returns-in-Lent3 : goal.returns-in-Lent3
returns-in-Lent3 g c = tag_arm cases _ c.in-Lent3.is refl

pub returns-in-Text4 : goal.returns-in-Text4
returns-in-Text4 g c = tag_arm cases _ c.in-Text4.is refl

pub returns-in-Bytes5 : goal.returns-in-Bytes5
returns-in-Bytes5 g c = tag_arm cases _ c.in-Bytes5.is refl

pub returns-in-List6 : goal.returns-in-List6
returns-in-List6 g c = tag_arm cases _ c.in-List6.is refl

pub returns-in-Either7 : goal.returns-in-Either7
returns-in-Either7 g c = tag_arm cases _ c.in-Either7.is refl

pub returns-in-Nothing8 : goal.returns-in-Nothing8
returns-in-Nothing8 g c = tag_arm cases _ c.in-Nothing8.is refl

pub returns-in-Number9 : goal.returns-in-Number9
returns-in-Number9 g c = tag_arm cases _ c.in-Number9.is refl

pub returns-in-Both10 : goal.returns-in-Both10
returns-in-Both10 g c = tag_arm cases _ c.in-Both10.is refl

pub returns-in-Lent11 : goal.returns-in-Lent11
returns-in-Lent11 g c = tag_arm cases _ c.in-Lent11.is refl

pub returns-in-Text12 : goal.returns-in-Text12
returns-in-Text12 g c = tag_arm cases _ c.in-Text12.is refl

pub returns-in-Bytes13 : goal.returns-in-Bytes13
returns-in-Bytes13 g c = tag_arm cases _ c.in-Bytes13.is refl

pub returns-in-List14 : goal.returns-in-List14
returns-in-List14 g c = tag_arm cases _ c.in-List14.is refl

pub returns-in-Either15 : goal.returns-in-Either15
returns-in-Either15 g c = tag_arm cases _ c.in-Either15.is refl

pub returns-in-Nothing16 : goal.returns-in-Nothing16
returns-in-Nothing16 g c = tag_arm cases _ c.in-Nothing16.is refl

pub returns-in-Number17 : goal.returns-in-Number17
returns-in-Number17 g c = tag_arm cases _ c.in-Number17.is refl

pub returns-in-Both18 : goal.returns-in-Both18
returns-in-Both18 g c = tag_arm cases _ c.in-Both18.is refl

pub returns-in-Lent19 : goal.returns-in-Lent19
returns-in-Lent19 g c = tag_arm cases _ c.in-Lent19.is refl

pub returns-in-Text20 : goal.returns-in-Text20
returns-in-Text20 g c = tag_arm cases _ c.in-Text20.is refl

pub returns-in-Bytes21 : goal.returns-in-Bytes21
returns-in-Bytes21 g c = tag_arm cases _ c.in-Bytes21.is refl

pub returns-in-List22 : goal.returns-in-List22
returns-in-List22 g c = tag_arm cases _ c.in-List22.is refl

pub returns-in-Either23 : goal.returns-in-Either23
returns-in-Either23 g c = tag_arm cases _ c.in-Either23.is refl
