use Rattle.std.proofs.Common.{◌≡◌, ◌<◌, ℕ, List, length, slice_index_or}
use Rattle.speedy_write.proofs.lists.are_whole.Given as goal

-- each array before this one has as many items as its type says
abbrev pub invariant-loop-array : goal.invariant-loop-array
invariant-loop-array g l =
    (k : ℕ) (d : List g.row.T.Denot) → k < l.array-index → length (slice_index_or l.arrays k d) ≡ g.row.N
