use Rattle.std.proofs.Common.{◌∙◌, refl, sym, subst}
use Rattle.speedy_write.specs.Sequences.{Writes-from}
use Rattle.speedy_write.proofs.CountLemmas.{StaysAs, stays_same, context_back, item_counted}
use Rattle.speedy_write.proofs.each.write_item.Goals.{then-counts+in-Ok+in_default-count_bytes}
use Rattle.speedy_write.proofs.each.write_item.Goals.{then-counts+in_default+in-Err-1, then-counts+in_default+in-Ok-1}
use Rattle.speedy_write.proofs.each.write_item.Goals.{else-counts}
use Rattle.speedy_write.proofs.each.write_item.Goals as goal

pub returns-in-Some : goal.returns-in-Some
returns-in-Some g c =
    let W = g.met.W.Writer in
    let suffix =
    context_back g.W.Writer.at g.C.Context.mode W.mode_at W.state_with W.nothing W.additive W.appends_with in
    let w = c.args.writer.now in
    let value = c.context_mut.ensures.value in
    let same = suffix w _ _ _ value c.bytes_needed.ensures.mode refl in
    Writes-from same.0.state_is (λ b. same.0.joins b _)
    (item_counted g.T.Layout.layout.laws same.1 c.in-Ok.ensures.needs.written c.in-Some.ensures.counts)

pub returns : goal.returns
returns g c =
    let W = g.met.W.Writer in
    let suffix =
    context_back g.W.Writer.at g.C.Context.mode W.mode_at W.state_with W.nothing W.additive W.appends_with in
    let w = c.args.writer.now in
    let same : StaysAs g.W.Writer.state g.W.Writer.appends w c.if-counts.writer = elim c.if-counts.branch [
      | then-counts+in-Ok+in_default-count_bytes h ↦ (suffix w _ _ _ h.context_mut.ensures.value
          h.bytes_needed.ensures.mode (h.writer-is ∙ h.in_default-count_bytes.ensures.counts)).0
      | then-counts+in_default+in-Err-1 h ↦
          (suffix w _ _ _ h.context_mut.ensures.value h.bytes_needed.ensures.mode h.writer-is).0
      | then-counts+in_default+in-Ok-1 h ↦
          (suffix w _ _ _ h.context_mut.ensures.value h.bytes_needed.ensures.mode h.writer-is).0
      | else-counts h ↦ subst (StaysAs g.W.Writer.state g.W.Writer.appends w) (sym h.writer-is) stays_same
    ] in
    Writes-from same.state_is (λ b. same.joins b _) c.by_parts.ensures
