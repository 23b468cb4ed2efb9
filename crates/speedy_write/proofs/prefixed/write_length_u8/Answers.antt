use Rattle.std.proofs.Common.{refl, arith}
use Rattle.speedy_write.proofs.NumberLemmas.{too_long_refused}
use Rattle.speedy_write.proofs.prefixed.write_length_u8.Goals as goal

pub returns-in-Err : goal.returns-in-Err
returns-in-Err g c =
    too_long_refused 1 refl (let past = c.in-Err.ensures in omega arith) c.error_out_of_range_length.ensures
    (g.met.W.Writer.nothing _)
