use Rattle.speedy_write.proofs.FrontLemmas.{waits_behind}
use Rattle.speedy_write.proofs.buffering.Waiting.add_each.Goals as goal

pub returns-clause-adds : goal.returns-clause-adds
returns-clause-adds g c =
    let w = c.args.self.now in
    waits_behind w.start w.end _ w.room.now w.ordered w.within c.fill_each-count.ensures.fills
