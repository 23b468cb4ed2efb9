use Rattle.std.proofs.Common.{refl}
use Rattle.speedy_write.specs.Sequences.{is_sequence, first_refused, second_written}
use Rattle.speedy_write.proofs.lengths.Tuple2WriteHolds.write_parts.Goals as goal

pub returns-in_err-write_parts : goal.returns-in_err-write_parts
returns-in_err-write_parts g c = first_refused is_sequence refl c.from_residual.ensures.1 c.in_err-write_parts.ensures

pub returns : goal.returns
returns g c = second_written is_sequence refl g.A.Holds.layout.laws (g.met.W.Writer.additive _ _ _)
    c.in_ok-write_parts.ensures c.write_parts-2.ensures
