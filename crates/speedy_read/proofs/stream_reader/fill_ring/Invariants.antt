use Rattle.std.proofs.Common.{◌≡◌, ◌-◌, ◌≤◌, ◌++◌, length, max, IsTrue, false}
use Rattle.speedy_read.proofs.stream_reader.fill_ring.Given as goal

abbrev pub invariant-loop-ring : goal.invariant-loop-ring
invariant-loop-ring g l =
    let source = g.S.Source.source in
    ((source l.source).tells ≡ (source l.fn.source).tells)
    × ((source l.source).faults ≡ (source l.fn.source).faults)
    × (l.ring.capacity ≡ l.fn.ring.capacity)
    × (IsTrue (source l.fn.source).tells
    → l.ring.bytes ++ (source l.source).remaining ≡ l.fn.ring.bytes ++ (source l.fn.source).remaining)
    × (l.count ≤ length l.fn.ring.bytes → (l.ring ≡ l.fn.ring) × (source l.source ≡ source l.fn.source))
    × (l.reads_ahead ≡ false → length l.ring.bytes ≤ max (length l.fn.ring.bytes) l.count)

abbrev pub decreases-loop-ring : goal.decreases-loop-ring
decreases-loop-ring g l = l.count - length l.ring.bytes
