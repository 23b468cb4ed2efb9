use Rattle.speedy_protocol.proofs.TagLemmas.{tag_third}
use Rattle.speedy_protocol.proofs.frames.tag_is_third.Goals as goal

pub returns : goal.returns
returns c = tag_third
