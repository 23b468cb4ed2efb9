use Rattle.std.proofs.Common.{arith}
use Rattle.speedy_base.specs.Error.{kind_of}
use Rattle.speedy_base.specs.Mode.{plain_mode}
use Rattle.speedy.proofs.ExportLemmas.{kind_bounds, checks_in_order, checks_refused}
use Rattle.speedy.proofs.exports.check.Goals as goal

pub returns : goal.returns
returns g c =
    let order = c.in-Some.order in
    let answers = rw c.in-Err.is at c.read_with_length-outcome.ensures in
    let lacks = c.refused_is_none.ensures.lacks {mode = plain_mode order} answers in
    let own = (g.T.Layout.layout.laws (plain_mode order)).names_own in
    let bounds = kind_bounds (kind_of c.in-Err.error) in
    rw c.kind_number.ensures (checks_in_order order ((c.order_of.ensures.known order).0 c.in-Some.is) answers.within
    (omega (arith, bounds)) (checks_refused own answers lacks))
