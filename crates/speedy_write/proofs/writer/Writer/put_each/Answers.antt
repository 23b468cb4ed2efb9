use Rattle.speedy_write.proofs.ListLemmas.{no_items_written}
use Rattle.speedy_write.proofs.writer.Writer.put_each.Goals as goal

pub returns-clause-puts : goal.returns-clause-puts
returns-clause-puts g c =
    no_items_written g.T.Layout.layout.format g.T.Layout.seen (g.met.Self.Writer.nothing _)
