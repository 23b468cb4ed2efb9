use Rattle.std.proofs.Common.{◌≤◌, ◌-◌, take, drop}
use Rattle.speedy_write.proofs.PushLemmas.{PushedSoFar}
use Rattle.speedy_write.proofs.buffering.push_range.Given as goal

-- the first of what waits was pushed
abbrev pub invariant-loop-at : goal.invariant-loop-at
invariant-loop-at g l = record {
  range : l.at ≤ l.end;
  pushed : PushedSoFar (drop l.fn.start (take l.end l.room)) (drop l.at (take l.end l.room)) (g.S.Sink.sink l.fn.sink)
      (g.S.Sink.sink l.sink);
}

abbrev pub decreases-loop-at : goal.decreases-loop-at
decreases-loop-at g l = l.end - l.at
