use Rattle.std.proofs.Common.{arith}
use Rattle.speedy_base.specs.Error.{kind_of}
use Rattle.speedy.proofs.ExportLemmas.{kind_bounds, checks_whole_in_order, checks_whole_refused}
use Rattle.speedy.proofs.exports.check_whole.Goals as goal

pub returns : goal.returns
returns g c =
    let order = c.in-Some.order in
    let bounds = kind_bounds (kind_of c.in-Err.error) in
    rw c.kind_number.ensures (checks_whole_in_order order ((c.order_of.ensures.known order).0 c.in-Some.is)
    (omega (arith, bounds)) (checks_whole_refused (rw c.in-Err.is at c.read_whole_from_buffer_with_ctx.ensures)))
