use Rattle.speedy_write.proofs.FrontLemmas.{items_wait}
use Rattle.speedy_write.proofs.buffering.BufferingCollectorWriter.put_from.Goals as goal

pub returns-clause-puts : goal.returns-clause-puts
returns-clause-puts g c =
    let put = c.add_from.ensures.adds in
    (put.0, put.1, items_wait g.T.Layout.layout.laws g.T.Layout.seen put.0 c.add_from.ensures.mode put.2)
