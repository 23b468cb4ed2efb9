use Rattle.speedy_write.proofs.TextLemmas.{text_is_short, text_takes}
use Rattle.speedy_write.proofs.texts.length_of.Goals as goal

pub returns-clause-takes : goal.returns-clause-takes
returns-clause-takes c mode few = text_takes mode _ c.utf8.text few

pub returns-clause-few : goal.returns-clause-few
returns-clause-few c mode = text_is_short mode _
