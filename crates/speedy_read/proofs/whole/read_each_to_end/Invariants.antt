use Rattle.speedy_read.proofs.WholeLemmas.{ItemsTaken}
use Rattle.speedy_read.proofs.whole.read_each_to_end.Given as goal

abbrev pub invariant-loop-left : goal.invariant-loop-left
invariant-loop-left g l =
    let old = g.R.LendingReader.state l.fn.reader in
    ItemsTaken g.T.Layout.seen (g.T.Layout.layout.format old.mode) l.items.items l.left old
    (g.R.LendingReader.state l.reader)

abbrev pub decreases-loop-left : goal.decreases-loop-left
decreases-loop-left g l = l.left
