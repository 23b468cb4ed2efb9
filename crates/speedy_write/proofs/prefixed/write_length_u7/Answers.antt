use Rattle.std.proofs.Common.{refl, arith}
use Rattle.speedy_write.proofs.NumberLemmas.{past_greatest_refused, within_greatest_written}
use Rattle.speedy_write.proofs.prefixed.write_length_u7.Goals as goal

pub returns-then-length-from : goal.returns-then-length-from
returns-then-length-from g c =
    let past = c.if-length-from.true in
    past_greatest_refused 1 127 refl (omega (arith, past, c.from.ensures)) c.error_out_of_range_length.ensures
    (g.met.W.Writer.nothing _)

pub returns : goal.returns
returns g c =
    let within = c.if-length-from.false in
    within_greatest_written 1 127 refl (omega (arith, within, c.from.ensures)) c.write_u8.ensures
