use Rattle.std.proofs.Common.{List, arith, map, subst}
use Rattle.std.proofs.lemmas.List.{take_all}
use Rattle.speedy_write.specs.Counting.{CountsEach}
use Rattle.speedy_write.proofs.CountLemmas.{one_more_counted}
use Rattle.speedy_write.proofs.each.size_of_block.Goals as goal

pub loop-value-preserved : goal.loop-value-preserved
loop-value-preserved g c =
    let so_far = c.loop-value.invariant in (
      omega (arith, so_far.0, c.size.ensures.few),
      λ mode. one_more_counted _ g.T.Layout.seen c.args.values.now c.loop-value.value-index (omega arith)
          c.value-item.is (so_far.1 mode) (c.size.ensures.takes mode),
    )

pub returns-clause-counts : goal.returns-clause-counts
returns-clause-counts g c mode =
    let writes = (g.T.Layout.layout.format mode).writes in
    subst (λ (values : List g.row.T.Denot). CountsEach writes (map g.T.Layout.seen values) c.loop-value.sum)
    (take_all c.loop-value.value-index c.args.values.now (omega arith)) (c.loop-value.invariant.1 mode)
