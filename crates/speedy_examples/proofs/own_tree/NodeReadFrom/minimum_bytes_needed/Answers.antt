use Rattle.std.proofs.Common.{rules}
use Rattle.speedy.specs.Layers.{at_level, layer_of, pair_layer, own_layer, list_layer}
use Rattle.speedy_examples.proofs.own_tree.NodeReadFrom.minimum_bytes_needed.Goals as goal

pub returns : goal.returns
unfolding at_level layer_of pair_layer own_layer list_layer
returns g c = search rules
