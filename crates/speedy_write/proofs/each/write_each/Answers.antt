use Rattle.std.proofs.Common.{◌∙◌, ◌++◌, ◌∷◌, [], take, refl, sym, ap}
use Rattle.std.proofs.lemmas.Bool.{eqb-true}
use Rattle.std.proofs.lemmas.List.{append_assoc}
use Rattle.speedy_write.proofs.ListLemmas.{no_items_written, more_written, next_written, next_refused}
use Rattle.speedy_write.proofs.ListLemmas.{none_left, put_off, listed_written}
use Rattle.speedy_write.proofs.each.write_each.Goals as goal

pub loop-rest-init : goal.loop-rest-init
loop-rest-init g c =
    ([], refl, no_items_written g.T.Layout.layout.format g.T.Layout.seen (g.met.W.Writer.nothing _))

pub loop-rest-preserved : goal.loop-rest-preserved
loop-rest-preserved g c =
    let before = c.loop-rest.invariant in
    let seen = g.T.Layout.seen in
    let taken = take c.put_each.result c.loop-rest.rest.now in
    let done = before.0 ++ taken in
    let item = c.in-Some.item.now in (
      done ++ item ∷ [],
      put_off _ before.0 _ c.split_at.ensures.back before.1
          ∙ (ap (λ us. done ++ us) c.in-Some.ensures.cases.0
          ∙ sym (append_assoc done (item ∷ []) c.in-Some.others.now)),
      next_written (g.met.W.Writer.additive _ _ _) seen done item
          (more_written g.T.Layout.layout.format (g.met.W.Writer.additive _ _ _) seen before.0 taken before.2
          c.put_each.ensures.puts) c.in_ok-write_to.ensures,
    )

pub returns-in_default : goal.returns-in_default
returns-in_default g c =
    let before = c.loop-rest.invariant in
    let taken = take c.put_each.result c.loop-rest.rest.now in
    listed_written g.T.Layout.layout.format g.T.Layout.seen
    (none_left (before.0 ++ taken) _ c.in_default.ensures.cases
    (put_off _ before.0 _ c.split_at.ensures.back before.1))
    (more_written g.T.Layout.layout.format (g.met.W.Writer.additive _ _ _) g.T.Layout.seen before.0 taken
    before.2 c.put_each.ensures.puts)

pub returns-in_err-write_to : goal.returns-in_err-write_to
returns-in_err-write_to g c =
    let before = c.loop-rest.invariant in
    let seen = g.T.Layout.seen in
    let taken = take c.put_each.result c.loop-rest.rest.now in
    let done = before.0 ++ taken in
    listed_written g.T.Layout.layout.format g.T.Layout.seen
    (put_off _ before.0 _ c.split_at.ensures.back before.1
    ∙ ap (λ us. done ++ us) c.in-Some.ensures.cases.0)
    (next_refused (g.met.W.Writer.additive _ _ _) seen done c.in-Some.item.now
    g.T.Layout.layout.laws c.from_residual.ensures.1
    (more_written g.T.Layout.layout.format (g.met.W.Writer.additive _ _ _) seen before.0 taken before.2
    c.put_each.ensures.puts) c.in_err-write_to.ensures c.in-Some.others.now)

pub returns : goal.returns
returns g c =
    let before = c.loop-rest.invariant in
    listed_written g.T.Layout.layout.format g.T.Layout.seen
    (none_left before.0 c.loop-rest.rest.now (eqb-true _ _ (sym c.loop-rest-test.ensures)) before.1)
    before.2
