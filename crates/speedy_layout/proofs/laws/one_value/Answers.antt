use Rattle.std.proofs.Common.{[], refl}
use Rattle.speedy_layout.proofs.laws.one_value.Goals as goal

pub returns : goal.returns
returns g c = λ f v w bytes h k. ((g.T.Layout.layout.laws f).decodes v w bytes bytes [] [] h k refl).0
