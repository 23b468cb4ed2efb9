use Rattle.speedy_layout.proofs.FixedNumberLemmas.{number_of_put}
use Rattle.speedy_layout.proofs.numbers.U8FixedNumber.encode.Goals as goal

pub returns-clause-number : goal.returns-clause-number
returns-clause-number c = number_of_put c.args._order c.args.output.now c.args.self c.requires
