use Rattle.std.proofs.Common.{ap}
use Rattle.std.specs.Option.{option_map}
use Rattle.speedy_layout.specs.Flags.{flag_codec, option_parts}
use Rattle.speedy_write.specs.Sequences.{is_sequence, first_refused, second_written}
use Rattle.speedy_write.proofs.OptionLemmas.{absent_written}
use Rattle.speedy_write.proofs.flags.OptionWritable.write_to.Goals as goal

pub returns-in_err-write_value-in-Some : goal.returns-in_err-write_value-in-Some
returns-in_err-write_value-in-Some g c =
    first_refused is_sequence (ap (λ o. option_parts (option_map g.T.Layout.seen o)) c.in-Some.is)
    c.from_residual.ensures.1 c.in_err-write_value-in-Some.ensures

pub returns-in_ok-write_value-in-Some : goal.returns-in_ok-write_value-in-Some
returns-in_ok-write_value-in-Some g c =
    second_written is_sequence (ap (λ o. option_parts (option_map g.T.Layout.seen o)) c.in-Some.is) flag_codec.laws
    (g.met.W.Writer.additive _ _ _) c.in_ok-write_value-in-Some.ensures c.write_value-in-Some.ensures

pub returns-in-None : goal.returns-in-None
returns-in-None g c = absent_written g.T.Layout.layout.format g.T.Layout.seen _ c.in-None.is
    c.write_value-in-None.ensures
