use Rattle.speedy_layout.specs.Numbers.{unsigned_number}
use Rattle.speedy_read.proofs.bulk.BytesStrategyU8.size_of_each.Goals as goal

pub returns : goal.returns
unfolding unsigned_number
returns g c = λ f v bytes h. h.width_is
