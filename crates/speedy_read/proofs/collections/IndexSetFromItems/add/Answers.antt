use Rattle.speedy_layout.specs.GathersToLemmas.{index_set_added}
use Rattle.speedy_read.proofs.collections.IndexSetFromItems.add.Goals as goal
use Rattle.speedy_read.proofs.collections.IndexSetFromItems.add.Goals.{in-Ok, in-Err}

pub returns : goal.returns
returns g c =
    elim c.match-insert.branch [
      | in-Ok w ↦ rw w.result-is (λ items h.
          index_set_added g.met.T.Eq.laws items c.args.item c.args.self.now c.insert.new.self h
          w.in-Ok.ensures.updates c.insert.ensures.unique w.in-Ok.ensures.keys)
      | in-Err w ↦ rw w.result-is tt
    ]
