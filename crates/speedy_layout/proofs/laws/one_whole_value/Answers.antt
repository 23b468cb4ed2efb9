use Rattle.speedy_layout.proofs.laws.one_whole_value.Goals as goal

pub returns : goal.returns
returns g c f v w bytes h k = (g.T.Whole.whole.laws f).one_value v w bytes h k
