use Rattle.speedy_layout.specs.OneMoreItem.{hash_map_accepts}
use Rattle.speedy_read.proofs.collections.HashMapFromItemsTuple2.accepts.Goals as goal

pub returns : goal.returns
returns g c = λ items. hash_map_accepts g.V.Layout.seen g.met.K.SameKey.same_key items c.args.self.now c.args.item.now
    c.contains_key.ensures
