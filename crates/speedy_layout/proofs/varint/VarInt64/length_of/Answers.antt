use Rattle.std.proofs.Common.{arith}
use Rattle.speedy_layout.proofs.VarintCode.{StartsVarint-leading_ones}
use Rattle.speedy_layout.proofs.varint.VarInt64.length_of.Goals as goal

pub returns : goal.returns
returns c = StartsVarint-leading_ones _ _ (omega arith) c.leading_ones.ensures
