use Rattle.std.proofs.Common.{sym}
use Rattle.speedy_layout.specs.Views.{length-shown_many}
use Rattle.speedy_layout.proofs.views.ArrayView.len.Goals as goal

pub returns-clause-shown : goal.returns-clause-shown
returns-clause-shown g c =
    let view = c.args.self.now in
    sym (length-shown_many g.T.ViewItem.decoded g.T.FixedSize.SIZE g.row.N view.bytes.now
    g.met.T.ViewItem.some_bytes view.whole)
