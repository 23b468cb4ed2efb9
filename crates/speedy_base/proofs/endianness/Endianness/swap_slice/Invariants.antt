use Rattle.std.proofs.Common.{◌≡◌}
use Rattle.speedy_base.specs.Digits.{turned_in}
use Rattle.speedy_base.proofs.Mapping.{passed}
use Rattle.speedy_base.proofs.endianness.Endianness.swap_slice.Given as goal

-- those that were passed are turned, and the rest stay as they were
abbrev pub invariant-loop-value : goal.invariant-loop-value
invariant-loop-value g l =
    let turned = turned_in l.fn.self g.T.Swap.reversed in
    l.slice ≡ passed turned l.value-index l.fn.slice
