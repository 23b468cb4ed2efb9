use Rattle.std.proofs.Common.{◌∙◌}
use Rattle.speedy_layout.specs.GathersToLemmas.{hash_map_extended}
use Rattle.speedy_read.proofs.CollectionLemmas.{extended}
use Rattle.speedy_read.proofs.collections.HashMapFromItemsTuple2.add_all.Goals as goal

pub returns : goal.returns
returns g c =
    extended c.args.items.items c.extend.result c.extend.ensures.ran (λ iter is. (is.0, is.1 ∙ c.args.items.ok.0))
    (λ all earlier h.
    hash_map_extended earlier c.args.items.items g.K.PartialEq.eq c.args.self.now c.extend.new.self h all)
