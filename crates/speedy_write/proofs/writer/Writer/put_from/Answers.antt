use Rattle.std.proofs.Common.{[]}
use Rattle.speedy_write.proofs.CollectionLemmas.{next_alone}
use Rattle.speedy_write.proofs.ListLemmas.{no_items_written}
use Rattle.speedy_write.proofs.writer.Writer.put_from.Goals as goal

pub returns : goal.returns
returns g c = (
  [],
  next_alone c.requires.1 c.next.ensures.steps c.next.ensures.goes,
  no_items_written g.T.Layout.layout.format g.T.Layout.seen (g.met.Self.Writer.nothing _),
)
