use Rattle.std.specs.Char.{InScalarRange}
use Rattle.std.proofs.Common.{refl, rules}
use Rattle.speedy_layout.specs.Encoding.{subset_encoded}
use Rattle.speedy_layout.proofs.leaves.CharToCode.encode.Goals as goal

pub returns : goal.returns
returns c = let range : InScalarRange c.args.self.now = search rules in subset_encoded _ _ _ _ refl range
