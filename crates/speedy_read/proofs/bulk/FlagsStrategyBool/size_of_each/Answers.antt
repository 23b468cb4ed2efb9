use Rattle.speedy_layout.specs.Codes.{coding}
use Rattle.speedy_layout.specs.Numbers.{unsigned_number}
use Rattle.speedy_read.proofs.bulk.FlagsStrategyBool.size_of_each.Goals as goal

pub returns : goal.returns
unfolding coding unsigned_number
returns g c = λ f v bytes h. h.code_is.width_is
