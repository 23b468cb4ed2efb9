use Rattle.speedy_write.proofs.FrontLemmas.{waits_behind}
use Rattle.speedy_write.proofs.buffering.Waiting.add_from.Goals as goal

pub returns-clause-adds : goal.returns-clause-adds
returns-clause-adds g c =
    let w = c.args.self.now in
    let put = c.fill_from-end.ensures.fills in
    (put.0, put.1, waits_behind w.start w.end _ w.room.now w.ordered w.within put.2)
