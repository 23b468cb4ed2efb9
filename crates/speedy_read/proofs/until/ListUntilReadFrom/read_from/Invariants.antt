use Rattle.std.proofs.Common.{◌-◌, ◌^◌, length, map}
use Rattle.speedy_read.proofs.UntilLemmas.{Numbered}
use Rattle.speedy_read.specs.ReadingLemmas.{ReadSoFar}
use Rattle.speedy_read.proofs.until.ListUntilReadFrom.read_from.Given as goal

abbrev pub invariant-loop-number : goal.invariant-loop-number
invariant-loop-number g l =
    let old = g.R.LendingReader.state l.fn.reader in
    ReadSoFar (Numbered old.mode g.N.Prefix.numbers.codec g.row.MARK g.T.Layout.layout
    (map (λ entry. (entry.0, g.T.Layout.seen entry.1)) l.entries.items) l.number) old
    (g.R.LendingReader.state l.reader)

abbrev pub decreases-loop-number : goal.decreases-loop-number
decreases-loop-number g l = 2 ^ 64 - length l.entries.items
