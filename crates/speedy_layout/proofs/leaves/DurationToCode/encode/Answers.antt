use Rattle.speedy_layout.specs.Leaves.{duration_encoded}
use Rattle.speedy_layout.proofs.leaves.DurationToCode.encode.Goals as goal

pub returns : goal.returns
returns c = duration_encoded c.as_secs.ensures c.subsec_nanos.ensures c.as_secs.type_inv
