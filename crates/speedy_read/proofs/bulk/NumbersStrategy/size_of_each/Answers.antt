use Rattle.std.proofs.Common.{◌∙◌, sym}
use Rattle.speedy_layout.specs.FixedNumbers.{size_of_fixed}
use Rattle.speedy_read.proofs.bulk.NumbersStrategy.size_of_each.Goals as goal

pub returns : goal.returns
returns g c = λ f v bytes h. size_of_fixed g.met.T.FixedNumber.fixed.is_fixed f v bytes h ∙ sym c.SIZE.ensures
