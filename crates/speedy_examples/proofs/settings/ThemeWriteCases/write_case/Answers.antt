use Rattle.speedy.specs.CaseArms.{write_arm}
use Rattle.speedy_examples.specs.contracts.settings.ThemeCasesImpl.TheImpl.{ghosts as cases}
use Rattle.speedy_examples.proofs.settings.ThemeWriteCases.write_case.Goals as goal

pub returns-in-Dark : goal.returns-in-Dark
returns-in-Dark g c =
    write_arm cases g.C.Error.From.from_gives g.W.Writer.state g.W.Writer.appends _ _ _
    c.in-Dark.is c.write_value.ensures
