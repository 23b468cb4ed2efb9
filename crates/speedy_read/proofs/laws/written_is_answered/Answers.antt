use Rattle.speedy_read.proofs.RoundTripLemmas.{written_is_answered}
use Rattle.speedy_read.proofs.laws.written_is_answered.Goals as goal

pub returns : goal.returns
returns g c = written_is_answered _ _ g.T.Layout.layout
