use Rattle.std.proofs.Common.{ap}
use Rattle.speedy_read.specs.ReadingLemmas.{refused_as, got_as}
use Rattle.speedy_read.proofs.OwnedLemmas.{owned_read, memory_refused}
use Rattle.speedy_read.proofs.owned.BoxReadFrom.read_from.Goals as goal

pub returns-in_err-value : goal.returns-in_err-value
returns-in_err-value g c = owned_read (refused_as c.from_residual.ensures.1 c.in_err-value.ensures)

pub returns-in-Ok : goal.returns-in-Ok
returns-in-Ok g c = owned_read (got_as (ap g.T.Layout.seen c.in-Ok.ensures.ok) c.in_ok-value.ensures)

pub returns : goal.returns
returns g c =
    memory_refused _ c.in_ok-value.ensures.kept c.in_ok-value.ensures.answer.no_fault c.error_out_of_memory.ensures
