use Rattle.std.proofs.Common.{rules}
use Rattle.speedy.specs.CaseArms.{write_arm}
use Rattle.speedy_derived.specs.contracts.lengths.LengthsInOneCaseCasesImpl.TheImpl.{ghosts as cases}
use Rattle.speedy_derived.proofs.lengths.LengthsInOneCaseWriteCases.write_case.Goals as goal

-- a fact before the equation of what it tells
turned : {A B C : Type 0} → (A → B → C) → B → A → C
turned f fact is = f is fact

pub returns : goal.returns
returns g c =
    let written = rw c.lent_option-name.ensures at c.write_value.ensures in
    turned (write_arm (record { Seen = cases.Seen; seen = λ v. v; choices = cases.choices })
    g.C.Error.From.from_gives g.W.Writer.state g.W.Writer.appends _ _ _) written (search (rules))
