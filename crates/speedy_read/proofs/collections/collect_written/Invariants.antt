use Rattle.speedy_read.specs.Collections.{Gatherer}
use Rattle.speedy_read.proofs.CollectionLemmas.{GatheredSoFar}
use Rattle.speedy_read.proofs.collections.collect_written.Given as goal

abbrev pub invariant-loop-i : goal.invariant-loop-i
invariant-loop-i g l =
    let old = g.R.LendingReader.state l.fn.reader in
    let gathering : Gatherer g.row.T.Denot g.row.F.Denot g.T.Layout.Seen = record {
      seen = g.T.Layout.seen;
      gathers = g.F.FromItems.gathers;
      are_written = g.F.FromItems.are_written;
    } in
    GatheredSoFar gathering (g.T.Layout.layout.format old.mode) l._i l.items old (g.R.LendingReader.state l.reader)
