use Rattle.speedy_read.proofs.RoundTripLemmas.{written_items_are_read}
use Rattle.speedy_read.proofs.laws.written_items_are_read.Goals as goal

pub returns : goal.returns
returns g c = written_items_are_read _ _ _ _ g.T.Layout.layout.laws
