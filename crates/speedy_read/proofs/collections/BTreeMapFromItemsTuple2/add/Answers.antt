use Rattle.speedy_layout.specs.GathersToLemmas.{tree_map_added}
use Rattle.speedy_read.proofs.collections.BTreeMapFromItemsTuple2.add.Goals as goal

pub returns-in-Ok : goal.returns-in-Ok
returns-in-Ok g c = λ items h.
    tree_map_added items c.args.item.0 c.args.item.1 g.K.Ord.cmp c.args.self.now c.insert.new.self h
    c.in-Ok.ensures.updates c.insert.ensures.ordered
