use Rattle.speedy_write.proofs.FrontLemmas.{items_wait}
use Rattle.speedy_write.proofs.buffering.BufferingCollectorWriter.put_each.Goals as goal

pub returns-clause-puts : goal.returns-clause-puts
returns-clause-puts g c =
    items_wait g.T.Layout.layout.laws g.T.Layout.seen _ c.add_each.ensures.mode c.add_each.ensures.adds
