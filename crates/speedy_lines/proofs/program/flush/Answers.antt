use Rattle.speedy_lines.proofs.RunLemmas.{flushed, flush_failed}
use Rattle.speedy_lines.proofs.program.flush.Goals as goal

pub returns-in-Ok : goal.returns-in-Ok
returns-in-Ok g c = record { answers = flushed _ _ _ _ c.in-Ok.ensures; settled = c.in-Ok.ensures.settles }

pub returns-in-Err : goal.returns-in-Err
returns-in-Err g c = record { answers = flush_failed _ _ _ _ c.from_io_error.ensures c.in-Err.ensures; settled = tt }
