use Rattle.speedy_read.proofs.RoundTripLemmas.{copied_alike}
use Rattle.speedy_read.proofs.laws.copied_is_answered.Goals as goal

pub returns : goal.returns
returns g c = λ mode none result count bytes a. copied_alike none a
