use Rattle.speedy_layout.specs.Lists.{list}
use Rattle.speedy_write.proofs.lists.write_counted.Goals as goal

pub returns : goal.returns
unfolding list
returns g c = c.write_items_behind.ensures
