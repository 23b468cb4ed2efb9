use Rattle.std.proofs.Common.{refl}
use Rattle.speedy_layout.specs.Lists.{vector}
use Rattle.speedy_write.proofs.CollectionLemmas.{shown_items_written}
use Rattle.speedy_write.proofs.OwnedLemmas.{owned_written}
use Rattle.speedy_write.proofs.collections.write_items_of.Goals as goal

pub returns : goal.returns
unfolding vector
returns g c = λ shown always. owned_written (shown_items_written refl always c.write_collection.ensures)
