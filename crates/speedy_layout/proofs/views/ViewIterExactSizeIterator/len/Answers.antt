use Rattle.std.proofs.Common.{◌/◌, length, sym, ap, ◌∙◌}
use Rattle.speedy_layout.specs.Views.{length-shown_items}
use Rattle.speedy_layout.proofs.views.ViewIterExactSizeIterator.len.Goals as goal

pub returns-clause-value : goal.returns-clause-value
returns-clause-value g c =
    let bytes = c.args.self.now.rest.now in
    ap (λ n. length bytes / n) c.SIZE.ensures ∙ sym (length-shown_items g.T.ViewItem.decoded g.T.FixedSize.SIZE bytes)
