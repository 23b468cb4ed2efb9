use Rattle.speedy_lines.proofs.RunLemmas.{RunSoFar}
use Rattle.speedy_lines.proofs.program.run.Given as goal

abbrev pub invariant-loop-i : goal.invariant-loop-i
invariant-loop-i g l = RunSoFar l._i l.pending.items (g.R.Source.source l.fn.input) (g.R.Source.source l.input)
    (g.W.Sink.sink l.fn.output) (g.W.Sink.sink l.output)
