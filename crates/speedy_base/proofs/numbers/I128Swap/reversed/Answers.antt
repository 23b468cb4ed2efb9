use Rattle.std.specs.Int.{w128}
use Rattle.speedy_base.proofs.Reversals.{swapped_signed-answered}
use Rattle.speedy_base.proofs.numbers.I128Swap.reversed.Goals as goal

pub returns : goal.returns
returns c =
    swapped_signed-answered w128 _ _ (record { sfits = c.swap_bytes.type_inv }) c.ranges.self c.swap_bytes.ensures
