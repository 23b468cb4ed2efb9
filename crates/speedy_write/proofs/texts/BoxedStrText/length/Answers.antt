use Rattle.speedy_write.proofs.texts.BoxedStrText.length.Goals as goal

pub returns : goal.returns
returns c = rw c.as_str.ensures.value at c.length_of.ensures
