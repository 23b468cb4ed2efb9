use Rattle.std.proofs.Common.{refl, sym, ◌∙◌}
use Rattle.speedy_read.proofs.GrowingLemmas.{end_whole, present_whole, present_refused}
use Rattle.speedy_read.proofs.whole.UnlessEndReadToEnd.read_to_end.Goals as goal

pub returns-then-left-eq0 : goal.returns-then-left-eq0
returns-then-left-eq0 g c = end_whole _ _ (sym c.left.ensures ∙ c.if-left-eq0.true) refl

pub returns-in-Ok : goal.returns-in-Ok
returns-in-Ok g c =
    present_whole _ _ (λ none. c.if-left-eq0.false (c.left.ensures ∙ none)) refl c.in-Ok.ensures

pub returns-in-Err : goal.returns-in-Err
returns-in-Err g c = present_refused _ _ (λ none. c.if-left-eq0.false (c.left.ensures ∙ none)) c.in-Err.ensures
