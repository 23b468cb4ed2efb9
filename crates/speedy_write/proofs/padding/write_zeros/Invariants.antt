use Rattle.std.proofs.Common.{◌-◌, ◌≤◌, Ok}
use Rattle.speedy_write.proofs.PaddingLemmas.{WritesZeros}
use Rattle.speedy_write.proofs.padding.write_zeros.Given as goal

-- so many zeros are written
abbrev pub invariant-loop-at : goal.invariant-loop-at
invariant-loop-at g l =
    let W = g.W.Writer in
    let before = l.initial.writer in
    (l.at ≤ l.count)
    × WritesZeros g.C.Error.From.from_gives l.at (Ok tt) (W.state before) (W.state l.writer)
    (λ b. W.appends before b l.writer)

abbrev pub decreases-loop-at : goal.decreases-loop-at
decreases-loop-at g l = l.count - l.at
