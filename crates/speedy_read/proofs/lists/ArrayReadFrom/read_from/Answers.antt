use Rattle.std.proofs.Common.{◌∙◌, sym}
use Rattle.std.proofs.lemmas.List.{length-map}
use Rattle.speedy_layout.specs.Lists.{vector_length}
use Rattle.speedy_read.proofs.lists.ArrayReadFrom.read_from.Goals as goal

pub unreachable-requires : goal.unreachable-requires
unreachable-requires g c =
    let items = c.in_ok-items.items in
    let number = vector_length _ _ _ _ c.in_ok-items.ensures.answer.prefix_is in
    c.in-Err.ensures.1 (items.ok.0 ∙ (sym (length-map items.items g.T.Layout.seen) ∙ number))
