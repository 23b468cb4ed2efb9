use Rattle.std.proofs.Common.{rules}
use Rattle.speedy.specs.CaseArms.{write_arm}
use Rattle.speedy_derived.specs.contracts.names.MessageCasesImpl.TheImpl.{ghosts as cases}
use Rattle.speedy_derived.proofs.names.MessageWriteCases.write_case.Goals as goal

-- a fact before the equation of what it tells
turned : {A B C : Type 0} → (A → B → C) → B → A → C
turned f fact is = f is fact

pub returns : goal.returns
returns g c =
    turned (write_arm (record { Seen = cases.Seen; seen = λ v. v; choices = cases.choices })
    g.C.Error.From.from_gives g.W.Writer.state g.W.Writer.appends _ _ _) c.write_value.ensures (search (rules))
