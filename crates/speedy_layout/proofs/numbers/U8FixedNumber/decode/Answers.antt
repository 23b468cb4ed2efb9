use Rattle.speedy_layout.proofs.FixedNumberLemmas.{number_of_byte}
use Rattle.speedy_layout.proofs.numbers.U8FixedNumber.decode.Goals as goal

pub returns : goal.returns
returns c = number_of_byte c.args._order c.args.bytes.now c.requires
