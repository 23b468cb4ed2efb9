use Rattle.std.proofs.Common.{◌-◌, ◌≤◌}
use Rattle.speedy_read.proofs.UntilEndLemmas.{ItemsSoFar}
use Rattle.speedy_read.proofs.until_end.collect_until_end.Given as goal

abbrev pub invariant-loop-whole : goal.invariant-loop-whole
invariant-loop-whole g l =
    let old = g.R.LendingReader.state l.fn.reader in
    (l.left ≤ l.greatest)
    × ItemsSoFar g.T.Layout.seen g.F.FromItems.gathers (g.T.Layout.layout.format old.mode) (l.greatest - l.left)
    l.whole old (g.R.LendingReader.state l.reader)

abbrev pub decreases-loop-whole : goal.decreases-loop-whole
decreases-loop-whole g l = l.left
