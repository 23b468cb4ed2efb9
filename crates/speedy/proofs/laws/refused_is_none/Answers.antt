use Rattle.speedy.proofs.PrefixLemmas.{refused_is_none}
use Rattle.speedy.proofs.laws.refused_is_none.Goals as goal

pub returns : goal.returns
returns g c = refused_is_none _ _ _
