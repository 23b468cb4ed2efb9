use Rattle.std.proofs.Common.{rules}
use Rattle.speedy.specs.Layers.{at_level}
use Rattle.speedy.specs.TaggedLayers.{tagged_layer}
use Rattle.speedy_derived.proofs.recursive.JsonReadFrom.minimum_bytes_needed.Goals as goal

pub returns : goal.returns
unfolding at_level tagged_layer
returns g c = search rules
