use Rattle.speedy_write.proofs.OwnedLemmas.{owned_written}
use Rattle.speedy.specs.Layers.{layer_of, owned_layer}
use Rattle.speedy.proofs.levels.write.RefWriteBelowBoxed.write_below.Goals as goal

pub returns : goal.returns
unfolding layer_of owned_layer
returns g c = owned_written (rw c.as_ref.ensures at c.write_below.ensures)
