use Rattle.std.specs.Prelude.{◌≡◌, ℕ, ◌+◌}
use Rattle.speedy_read.specs.Collections.{Gatherer}
use Rattle.speedy_read.proofs.CollectionLemmas.{GatheredSoFar}
use Rattle.speedy_read.proofs.collections.collect_items.Given as goal

abbrev pub invariant-loop-left : goal.invariant-loop-left
invariant-loop-left g l =
    let old = g.R.LendingReader.state l.fn.reader in
    let gathering : Gatherer g.row.T.Denot g.row.F.Denot g.T.Layout.Seen = record {
      seen = g.T.Layout.seen;
      gathers = g.F.FromItems.gathers;
      are_written = g.F.FromItems.are_written;
    } in
    (done : ℕ) × (done + l.left ≡ l.fn.length)
    × GatheredSoFar gathering (g.T.Layout.layout.format old.mode) done l.whole old (g.R.LendingReader.state l.reader)

abbrev pub decreases-loop-left : goal.decreases-loop-left
decreases-loop-left g l = l.left
