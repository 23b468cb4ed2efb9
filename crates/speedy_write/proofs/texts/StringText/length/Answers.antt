use Rattle.speedy_write.proofs.texts.StringText.length.Goals as goal

pub returns : goal.returns
returns c = rw c.as_str-text.ensures.value at c.length_of.ensures
