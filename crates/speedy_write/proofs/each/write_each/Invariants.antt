use Rattle.std.proofs.Common.{◌≡◌, ◌++◌, List, length, Ok}
use Rattle.speedy_write.specs.Writing.{WritesEach}
use Rattle.speedy_write.proofs.each.write_each.Given as goal

-- all but the rest are written
abbrev pub invariant-loop-rest : goal.invariant-loop-rest
invariant-loop-rest g l =
    let W = g.W.Writer in
    let before = l.initial.writer in
    (done : List g.row.T.Denot) × (l.items ≡ done ++ l.rest)
    × WritesEach g.C.Error.From.from_gives g.T.Layout.layout.format g.T.Layout.seen done (Ok tt) (W.state before)
    (W.state l.writer) (λ b. W.appends before b l.writer)

abbrev pub decreases-loop-rest : goal.decreases-loop-rest
decreases-loop-rest g l = length l.rest
