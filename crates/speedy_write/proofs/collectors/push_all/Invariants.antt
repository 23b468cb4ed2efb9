use Rattle.std.proofs.Common.{◌≡◌, [], length}
use Rattle.speedy_write.proofs.PushLemmas.{PushedSoFar}
use Rattle.speedy_write.proofs.collectors.push_all.Given as goal

-- what was pushed so far; and where nothing is to be pushed, the sink is as it was
abbrev pub invariant-loop-rest : goal.invariant-loop-rest
invariant-loop-rest g l =
    PushedSoFar l.bytes l.rest (g.S.Sink.sink l.fn.sink) (g.S.Sink.sink l.sink) × (l.bytes ≡ [] → l.sink ≡ l.fn.sink)

abbrev pub decreases-loop-rest : goal.decreases-loop-rest
decreases-loop-rest g l = length l.rest
