use Rattle.std.proofs.Common.{ap}
use Rattle.std.specs.Prelude.{map}
use Rattle.speedy_read.proofs.WholeLemmas.{items_at_once, not_whole_as, whole_as}
use Rattle.speedy_read.proofs.whole.read_items_to_end.Goals as goal

pub returns-in-Some : goal.returns-in-Some
returns-in-Some g c =
    let memory = g.met.R.MemoryReader.in_memory in
    items_at_once _ g.T.Layout.layout c.size_of_each-size.result c.size_of_each-size.ensures c.in-Some.count
    c.in-Some.ensures (memory _) (memory _) c.left-left.ensures c.read_many_cow.result c.read_many_cow.ensures

pub returns-in_err-items : goal.returns-in_err-items
returns-in_err-items g c = not_whole_as c.from_residual.ensures.1 c.in_err-items.ensures

pub returns : goal.returns
returns g c = whole_as (ap (map g.T.Layout.seen) c.from_values.ensures) c.in_ok-items.ensures
