use Rattle.std.proofs.Common.{length}
use Rattle.speedy_lines.proofs.RunLemmas.{PieceSoFar}
use Rattle.speedy_lines.proofs.program.answer_piece.Given as goal

abbrev pub invariant-loop-line : goal.invariant-loop-line
invariant-loop-line g l =
    PieceSoFar l.fn.pending.items l.fn.piece l.pending.items l.rest (g.W.Sink.sink l.fn.output) (g.W.Sink.sink l.output)

abbrev pub decreases-loop-line : goal.decreases-loop-line
decreases-loop-line g l = length l.rest
