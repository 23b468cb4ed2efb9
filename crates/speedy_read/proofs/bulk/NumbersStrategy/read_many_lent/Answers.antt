use Rattle.speedy_read.proofs.bulk.NumbersStrategy.read_many_lent.Goals as goal

pub returns : goal.returns
returns g c = c.read_numbers.ensures g.W.FromLent.shown
