use Rattle.std.proofs.Common.{◌∙◌, ap₂}
use Rattle.std.specs.Cmp.Lexicographic.{pointwise}
use Rattle.speedy_layout.proofs.WalkLemmas.{walked_equal}
use Rattle.speedy_layout.specs.ViewIters.{left_items}
use Rattle.speedy_layout.proofs.views.show_same.Goals as goal

pub returns : goal.returns
returns g c =
    walked_equal (left_items g.T.ViewItem.decoded g.T.FixedSize.SIZE) g.T.PartialEq.eq c.items_of.result
    c.items_of-2.result c.eq.result c.eq.ensures.ran
    ∙ ap₂ (pointwise g.T.PartialEq.eq) c.items_of.ensures.shown c.items_of-2.ensures.shown
