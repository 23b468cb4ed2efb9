use Rattle.std.proofs.Common.{◌∙◌, ◌++◌, List, sym, arith, map, subst}
use Rattle.std.proofs.lemmas.Bool.{eqb-true}
use Rattle.std.proofs.lemmas.List.{append_assoc, length-append}
use Rattle.speedy_write.specs.Counting.{CountsEach}
use Rattle.speedy_write.proofs.CountLemmas.{more_counted}
use Rattle.speedy_write.proofs.ListLemmas.{cut_off, none_left}
use Rattle.speedy_write.proofs.each.size_of_short.Goals as goal

pub loop-rest-preserved : goal.loop-rest-preserved
loop-rest-preserved g c =
    let so_far = c.loop-rest.invariant in
    let done = so_far.0 in
    let some = c.split_at.result.0.now in (
      done ++ some,
      cut_off _ done _ c.split_at.ensures.front c.split_at.ensures.back so_far.1
          ∙ sym (append_assoc done some c.split_at.result.1.now),
      omega (arith, so_far.2, length-append done some, c.size_of_block.ensures.few),
      λ mode. more_counted _ g.T.Layout.seen done some (so_far.3 mode) (c.size_of_block.ensures.counts mode),
    )

pub returns-clause-counts : goal.returns-clause-counts
returns-clause-counts g c mode =
    let so_far = c.loop-rest.invariant in
    let writes = (g.T.Layout.layout.format mode).writes in
    let all = none_left so_far.0 c.loop-rest.rest.now (eqb-true _ _ (sym c.loop-rest-test.ensures)) so_far.1 in
    subst (λ (values : List g.row.T.Denot). CountsEach writes (map g.T.Layout.seen values) c.loop-rest.sum) (sym all)
    (so_far.3 mode)
