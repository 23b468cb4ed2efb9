use Rattle.std.proofs.Common.{◌≡◌, ◌-◌, ◌≤◌, ◌++◌, length, take, IsTrue}
use Rattle.speedy_read.proofs.stream_reader.fill_list.Given as goal

abbrev pub invariant-loop-filled : goal.invariant-loop-filled
invariant-loop-filled g l =
    let source = g.S.Source.source in
    ((source l.source).tells ≡ (source l.fn.source).tells)
    × ((source l.source).faults ≡ (source l.fn.source).faults)
    × (l.filled ≤ length l.output)
    × (IsTrue (source l.fn.source).tells
    → (source l.fn.source).remaining ≡ take l.filled l.output ++ (source l.source).remaining)

abbrev pub decreases-loop-filled : goal.decreases-loop-filled
decreases-loop-filled g l = length l.initial.output - l.filled
