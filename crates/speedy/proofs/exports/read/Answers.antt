use Rattle.std.proofs.Common.{refl, arith}
use Rattle.speedy_base.specs.Error.{kind_of}
use Rattle.speedy_base.specs.Mode.{plain_mode}
use Rattle.speedy.proofs.ExportLemmas.{kind_bounds, checks_refused, reads_in_order, reads_refused}
use Rattle.speedy.proofs.exports.read.Goals as goal

pub returns-in-Err : goal.returns-in-Err
returns-in-Err g c =
    let order = c.in-Some.order in
    let answers = rw c.in-Err.is at c.read_with_length-outcome.ensures in
    let lacks = c.refused_is_none.ensures.lacks {mode = plain_mode order} answers in
    let own = (g.T.Layout.layout.laws (plain_mode order)).names_own in
    let bounds = kind_bounds (kind_of c.in-Err.error) in
    rw c.kind_number.ensures (reads_in_order order ((c.order_of.ensures.known order).0 c.in-Some.is) answers.within
    (omega (arith, bounds)) (λ _. refl) (reads_refused c.in-Err.error (checks_refused own answers lacks)))
