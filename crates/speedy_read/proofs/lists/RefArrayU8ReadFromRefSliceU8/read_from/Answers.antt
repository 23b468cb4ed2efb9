use Rattle.std.proofs.Common.{◌∙◌}
use Rattle.std.proofs.lemmas.List.{map-id}
use Rattle.speedy_read.specs.ReadingLemmas.{refused_as, got_as}
use Rattle.speedy_read.proofs.LentLemmas.{lent_length, items_lent}
use Rattle.speedy_read.proofs.lists.RefArrayU8ReadFromRefSliceU8.read_from.Goals as goal

pub returns-in_err-bytes-clause-reads : goal.returns-in_err-bytes-clause-reads
returns-in_err-bytes-clause-reads g c =
    refused_as c.from_residual.ensures.1 (items_lent _ _ tt c.in_err-bytes.ensures.reads)

pub unreachable-requires : goal.unreachable-requires
unreachable-requires g c = c.in-Err.ensures.1 (lent_length c.in_ok-bytes.ensures.reads)

pub returns-clause-reads : goal.returns-clause-reads
returns-clause-reads g c =
    let lent = c.in_ok-bytes.ensures in
    got_as (map-id _ ∙ c.in-Ok.ensures.1.same) (items_lent _ _ lent.range lent.reads)
