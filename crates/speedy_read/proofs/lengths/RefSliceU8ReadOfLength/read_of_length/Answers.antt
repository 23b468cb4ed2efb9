use Rattle.std.proofs.lemmas.List.{map-id}
use Rattle.speedy_read.proofs.LengthLemmas.{shown_as}
use Rattle.speedy_read.proofs.LentLemmas.{items_lent}
use Rattle.speedy_read.proofs.lengths.RefSliceU8ReadOfLength.read_of_length.Goals as goal

pub returns : goal.returns
returns g c = let lent = c.read_lent.ensures in shown_as (λ b. map-id b.now) (items_lent _ _ lent.range lent.reads)
