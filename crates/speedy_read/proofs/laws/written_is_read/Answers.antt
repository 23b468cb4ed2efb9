use Rattle.speedy_read.proofs.RoundTripLemmas.{written_is_read}
use Rattle.speedy_read.proofs.laws.written_is_read.Goals as goal

pub returns : goal.returns
returns g c = written_is_read _ _ _ _ g.T.Layout.layout.laws
