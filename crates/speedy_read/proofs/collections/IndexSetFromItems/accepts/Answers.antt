use Rattle.speedy_layout.specs.OneMoreItem.{hash_set_accepts}
use Rattle.speedy_read.proofs.collections.IndexSetFromItems.accepts.Goals as goal

pub returns : goal.returns
returns g c = λ items h.
    hash_set_accepts g.met.T.SameKey.same_key items
    c.args.self.now c.args.item.now c.contains.ensures h.0
