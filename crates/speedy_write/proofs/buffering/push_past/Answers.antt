use Rattle.std.proofs.Common.{refl}
use Rattle.speedy_write.proofs.BufferingLemmas.{pushed_past}
use Rattle.speedy_write.proofs.buffering.push_past.Goals as goal

pub returns-then-count-room-clause-writes : goal.returns-then-count-room-clause-writes
returns-then-count-room-clause-writes g c mode name = pushed_past c.args.slice.now c.push_all.result
    (rw c.in-Ok.is at c.push_range-rest.ensures.pushes) c.push_all.ensures.pushes refl
