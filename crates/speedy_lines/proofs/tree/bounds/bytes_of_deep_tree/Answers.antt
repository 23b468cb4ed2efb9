use Rattle.speedy_lines.proofs.DepthLemmas.{deep_refused}
use Rattle.speedy_lines.proofs.tree.bounds.bytes_of_deep_tree.Goals as goal

pub returns : goal.returns
returns g c = deep_refused 16 _ _ c.requires c.bytes_needed.ensures.needs
