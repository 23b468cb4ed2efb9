use Rattle.std.proofs.Common.{◌∙◌, refl, sym, subst}
use Rattle.speedy_write.specs.Sequences.{Writes-from}
use Rattle.speedy_write.proofs.CountLemmas.{StaysAs, stays_same, context_back, items_counted}
use Rattle.speedy_write.proofs.each.write_items.Goals.{then-counts+in-Some+in_default-count_bytes}
use Rattle.speedy_write.proofs.each.write_items.Goals.{then-counts+in_default, else-counts}
use Rattle.speedy_write.proofs.each.write_items.Goals as goal

pub returns-in-Some-count_bytes : goal.returns-in-Some-count_bytes
returns-in-Some-count_bytes g c =
    let W = g.met.W.Writer in
    let suffix =
    context_back g.W.Writer.at g.C.Context.mode W.mode_at W.state_with W.nothing W.additive W.appends_with in
    let w = c.args.writer.now in
    let value = c.context_mut.ensures.value in
    let same = suffix w _ _ _ value c.count_each.ensures.mode refl in
    Writes-from same.0.state_is (λ b. same.0.joins b _)
    (items_counted g.T.Layout.seen c.args.items.now g.T.Layout.layout.laws same.1
    c.in-Some.ensures.counts c.in-Some-count_bytes.ensures.counts)

pub returns : goal.returns
returns g c =
    let W = g.met.W.Writer in
    let suffix =
    context_back g.W.Writer.at g.C.Context.mode W.mode_at W.state_with W.nothing W.additive W.appends_with in
    let w = c.args.writer.now in
    let same : StaysAs g.W.Writer.state g.W.Writer.appends w c.if-counts.writer = elim c.if-counts.branch [
      | then-counts+in-Some+in_default-count_bytes h ↦ (suffix w _ _ _ h.context_mut.ensures.value
          h.count_each.ensures.mode (h.writer-is ∙ h.in_default-count_bytes.ensures.counts)).0
      | then-counts+in_default h ↦
          (suffix w _ _ _ h.context_mut.ensures.value h.count_each.ensures.mode h.writer-is).0
      | else-counts h ↦ subst (StaysAs g.W.Writer.state g.W.Writer.appends w) (sym h.writer-is) stays_same
    ] in
    Writes-from same.state_is (λ b. same.joins b _) c.write_each.ensures
