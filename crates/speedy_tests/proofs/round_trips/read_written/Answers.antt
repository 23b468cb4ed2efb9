use Rattle.std.proofs.Common.{refl}
use Rattle.speedy_tests.proofs.round_trips.read_written.Goals as goal

pub returns-clause-same : goal.returns-clause-same
returns-clause-same g
    c = λ v written. (c.written_is_answered.ensures.whole written refl c.read_from_buffer_with_ctx.ensures.1).same

pub returns-clause-refused : goal.returns-clause-refused
returns-clause-refused g
    c = λ v written. (c.written_is_answered.ensures.whole written refl c.read_from_buffer_with_ctx.ensures.1).refused
