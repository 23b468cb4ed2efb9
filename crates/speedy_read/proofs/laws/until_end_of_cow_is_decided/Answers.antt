use Rattle.speedy_read.proofs.UntilEndLaws.{until_end_is_decided}
use Rattle.speedy_read.proofs.laws.until_end_of_cow_is_decided.Goals as goal

pub returns : goal.returns
returns g c = until_end_is_decided _ _ _ _ _ g.T.Layout.layout.laws
