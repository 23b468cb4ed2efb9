use Rattle.std.proofs.Common.{refl}
use Rattle.speedy_write.specs.Sequences.{is_sequence, first_refused, second_written}
use Rattle.speedy_write.proofs.whole.FollowedWriteToEnd.write_to_end.Goals as goal

pub returns-in_err-write_value : goal.returns-in_err-write_value
returns-in_err-write_value g c = first_refused is_sequence refl c.from_residual.ensures.1 c.in_err-write_value.ensures

pub returns : goal.returns
returns g c =
    second_written is_sequence refl g.A.Layout.layout.laws (g.met.W.Writer.additive _ _ _) c.in_ok-write_value.ensures
    c.write_whole.ensures
