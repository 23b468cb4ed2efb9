use Rattle.speedy_write.proofs.FixedLemmas.{put_behind}
use Rattle.speedy_write.proofs.buffering.Waiting.add_values.Goals as goal

pub returns : goal.returns
returns g c =
    let w = c.args.self.now in
    put_behind g.T.Layout.seen c.args.values.now w.start c.put_values_at-self.ensures w.ordered w.within
