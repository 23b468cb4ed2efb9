use Rattle.speedy_read.proofs.RoundTripLemmas.{written_is_streamed}
use Rattle.speedy_read.proofs.laws.written_is_streamed.Goals as goal

pub returns : goal.returns
returns g c = written_is_streamed _ _ g.T.Layout.layout
