use Rattle.std.proofs.Common.{◌∙◌}
use Rattle.speedy_layout.specs.GathersToLemmas.{index_set_extended}
use Rattle.speedy_read.proofs.CollectionLemmas.{extended}
use Rattle.speedy_read.proofs.collections.IndexSetFromItems.add_all.Goals as goal

pub returns : goal.returns
returns g c =
    extended c.args.items.items c.extend.result c.extend.ensures.ran (λ iter is. (is.0, is.1 ∙ c.args.items.ok.0))
    (λ all earlier h.
    index_set_extended earlier c.args.items.items g.met.T.Eq.laws c.args.self.now c.extend.new.self h all.1
    all.0)
