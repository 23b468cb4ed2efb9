use Rattle.speedy_write.proofs.TextLemmas.{borrowed_takes, borrowed_written}
use Rattle.speedy_write.proofs.texts.RefStrText.length.Goals as goal

pub returns-clause-takes : goal.returns-clause-takes
returns-clause-takes c mode few = borrowed_takes _ (c.length_of.ensures.takes mode few)

pub returns-clause-few : goal.returns-clause-few
returns-clause-few c mode bytes h = c.length_of.ensures.few mode bytes (borrowed_written _ h)
