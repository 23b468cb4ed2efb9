use Rattle.std.proofs.Common.{ap, length, take, arith, length-drop, length-take-le}
use Rattle.speedy_write.proofs.BufferingLemmas.{more_taken}
use Rattle.speedy_write.proofs.buffering.push_range.Goals as goal

pub loop-at-preserved : goal.loop-at-preserved
loop-at-preserved g c = record {
  range = omega (
    arith,
    c.in-Ok.ensures.within,
    ap length c.waiting_in.ensures,
    length-drop c.loop-at.at (take c.args.end c.args.room.now),
    length-take-le c.args.end c.args.room.now c.requires.1,
  );
  pushed = more_taken c.args.room.now c.loop-at.at c.args.end c.in-Ok.count c.loop-at.invariant.pushed
      (rw c.waiting_in.ensures at c.in-Ok.ensures);
}
