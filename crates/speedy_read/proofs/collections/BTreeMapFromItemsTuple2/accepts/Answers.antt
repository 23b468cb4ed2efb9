use Rattle.std.proofs.Common.{◌∙◌, ap, refl}
use Rattle.std.specs.Ordering.{is_lt}
use Rattle.speedy_layout.specs.SeenItems.{cmp_tells_apart}
use Rattle.speedy_layout.specs.OneMoreItem.{tree_map_accepts, tree_map_accepts_first}
use Rattle.speedy_read.proofs.collections.BTreeMapFromItemsTuple2.accepts.Goals as goal

pub returns-in-Some : goal.returns-in-Some
returns-in-Some g c = λ items.
    tree_map_accepts g.V.Layout.seen (cmp_tells_apart g.K.Ord.cmp g.met.K.SameKey.same_key g.met.K.Ord.matches_eq)
    g.met.K.Ord.total
    items c.args.self.now c.args.item.now c.in-Some.last.now (c.is_lt.ensures ∙ ap is_lt c.cmp.ensures)
    c.in-Some.ensures.value c.in-Some.ensures.greatest

pub returns-in-None : goal.returns-in-None
returns-in-None g c = λ items h a. (
  λ _.
      tree_map_accepts_first g.V.Layout.seen
      (cmp_tells_apart g.K.Ord.cmp g.met.K.SameKey.same_key g.met.K.Ord.matches_eq) g.met.K.Ord.total
      items c.args.self.now c.args.item.now (λ l. absurd (let t = c.in-None.ensures.variant.1 l in (cc))) h a,
  λ _. refl,
)
