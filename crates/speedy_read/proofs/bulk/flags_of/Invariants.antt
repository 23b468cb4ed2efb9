use Rattle.std.proofs.Common.{◌≡◌, ◌≤◌, length, map, take, not, nat_eq, vec_len, vec_capacity}
use Rattle.speedy_read.proofs.bulk.flags_of.Given as goal

-- the first bytes are flags, and there is room for all
abbrev pub invariant-loop-byte : goal.invariant-loop-byte
invariant-loop-byte g l =
    (l.flags.items ≡ map (λ n. not (nat_eq n 0)) (take l.byte-index l.bytes)) × (vec_len l.flags ≡ l.byte-index)
    × (length l.bytes ≤ vec_capacity l.flags)
