use Rattle.std.proofs.Common.{◌∙◌, ap, refl}
use Rattle.std.specs.Ordering.{is_lt}
use Rattle.speedy_layout.specs.SeenItems.{cmp_tells_apart}
use Rattle.speedy_layout.specs.OneMoreItem.{tree_set_accepts, tree_set_accepts_first}
use Rattle.speedy_read.proofs.collections.BTreeSetFromItems.accepts.Goals as goal

pub returns-in-Some : goal.returns-in-Some
returns-in-Some g c = λ items.
    tree_set_accepts (cmp_tells_apart g.T.Ord.cmp g.met.T.SameKey.same_key g.met.T.Ord.matches_eq) g.met.T.Ord.total
    items c.args.self.now c.args.item.now c.in-Some.last.now (c.is_lt.ensures ∙ ap is_lt c.cmp.ensures)
    c.in-Some.ensures.member c.in-Some.ensures.greatest

pub returns-in-None : goal.returns-in-None
returns-in-None g c = λ items h a. (
  λ _.
      tree_set_accepts_first (cmp_tells_apart g.T.Ord.cmp g.met.T.SameKey.same_key g.met.T.Ord.matches_eq)
      g.met.T.Ord.total
      items c.args.self.now c.args.item.now (λ l. absurd (let t = c.in-None.ensures.variant.1 l in (cc))) h a,
  λ _. refl,
)
