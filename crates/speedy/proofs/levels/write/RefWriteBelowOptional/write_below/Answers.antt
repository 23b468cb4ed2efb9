use Rattle.std.proofs.Common.{ap}
use Rattle.std.specs.Option.{option_map}
use Rattle.speedy_layout.specs.Flags.{flag_codec, option_parts}
use Rattle.speedy_write.specs.Sequences.{is_sequence, first_refused, second_written}
use Rattle.speedy_write.proofs.OptionLemmas.{absent_written}
use Rattle.speedy.specs.Layers.{at_level, option_layer}
use Rattle.speedy.proofs.levels.write.RefWriteBelowOptional.write_below.Goals as goal

pub returns-in_err-write_value-in-Some : goal.returns-in_err-write_value-in-Some
unfolding option_layer
returns-in_err-write_value-in-Some g c =
    let seen = at_level g.T.Recursive.layer (g.B.Levels.levels c.args.self.now.now) in
    first_refused is_sequence (ap (λ o. option_parts (option_map (g.S.Shape.layer.view seen.view) o)) c.in-Some.is)
    c.from_residual.ensures.1 c.in_err-write_value-in-Some.ensures

pub returns-in_ok-write_value-in-Some : goal.returns-in_ok-write_value-in-Some
unfolding option_layer
returns-in_ok-write_value-in-Some g c =
    let seen = at_level g.T.Recursive.layer (g.B.Levels.levels c.args.self.now.now) in
    second_written is_sequence (ap (λ o. option_parts (option_map (g.S.Shape.layer.view seen.view) o)) c.in-Some.is)
    flag_codec.laws (g.met.W.Writer.additive _ _ _) c.in_ok-write_value-in-Some.ensures c.write_below.ensures

pub returns-in-None : goal.returns-in-None
unfolding option_layer
returns-in-None g c =
    let seen = at_level g.T.Recursive.layer (g.B.Levels.levels c.args.self.now.now) in
    let layer = g.S.Shape.layer in
    absent_written (layer.codec seen.codec).format (layer.view seen.view) _ c.in-None.is c.write_value-in-None.ensures
