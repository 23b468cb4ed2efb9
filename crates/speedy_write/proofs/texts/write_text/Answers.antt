use Rattle.speedy_layout.specs.Texts.{text as text_format}
use Rattle.speedy_write.proofs.texts.write_text.Goals as goal

pub returns : goal.returns
unfolding text_format
returns g c = c.write_text_behind.ensures
