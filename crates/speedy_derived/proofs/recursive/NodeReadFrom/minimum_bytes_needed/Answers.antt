use Rattle.std.proofs.Common.{rules}
use Rattle.speedy.specs.Layers.{at_level, layer_of, list_layer, own_layer, pair_layer}
use Rattle.speedy_derived.proofs.recursive.NodeReadFrom.minimum_bytes_needed.Goals as goal

pub returns : goal.returns
unfolding at_level layer_of list_layer own_layer pair_layer
returns g c = search rules
