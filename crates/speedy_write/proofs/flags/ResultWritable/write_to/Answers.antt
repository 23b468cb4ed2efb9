use Rattle.std.proofs.Common.{ap}
use Rattle.std.specs.Result.{result_map_both}
use Rattle.speedy_layout.specs.Flags.{flag_codec, alternative_parts}
use Rattle.speedy_write.specs.Sequences.{is_sequence, first_refused, second_written}
use Rattle.speedy_write.proofs.flags.ResultWritable.write_to.Goals as goal

pub returns-in_err-write_value-in-Ok : goal.returns-in_err-write_value-in-Ok
returns-in_err-write_value-in-Ok g c =
    first_refused is_sequence
    (ap (λ r. alternative_parts (result_map_both g.T.Layout.seen g.U.Layout.seen r)) c.in-Ok.is)
    c.from_residual.ensures.1 c.in_err-write_value-in-Ok.ensures

pub returns-in_ok-write_value-in-Ok : goal.returns-in_ok-write_value-in-Ok
returns-in_ok-write_value-in-Ok g c =
    second_written is_sequence
    (ap (λ r. alternative_parts (result_map_both g.T.Layout.seen g.U.Layout.seen r)) c.in-Ok.is) flag_codec.laws
    (g.met.W.Writer.additive _ _ _) c.in_ok-write_value-in-Ok.ensures c.write_value-in-Ok.ensures

pub returns-in_err-write_value-in-Err : goal.returns-in_err-write_value-in-Err
returns-in_err-write_value-in-Err g c =
    first_refused is_sequence
    (ap (λ r. alternative_parts (result_map_both g.T.Layout.seen g.U.Layout.seen r)) c.in-Err.is)
    c.from_residual-in_err-write_value-in-Err.ensures.1 c.in_err-write_value-in-Err.ensures

pub returns-in_ok-write_value-in-Err : goal.returns-in_ok-write_value-in-Err
returns-in_ok-write_value-in-Err g c =
    second_written is_sequence
    (ap (λ r. alternative_parts (result_map_both g.T.Layout.seen g.U.Layout.seen r)) c.in-Err.is) flag_codec.laws
    (g.met.W.Writer.additive _ _ _) c.in_ok-write_value-in-Err.ensures c.write_value-in-Err-2.ensures
