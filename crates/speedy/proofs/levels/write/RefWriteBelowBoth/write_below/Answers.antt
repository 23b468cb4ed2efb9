use Rattle.std.proofs.Common.{refl}
use Rattle.speedy_write.specs.Sequences.{is_sequence, first_refused, second_written}
use Rattle.speedy.specs.Layers.{pair_layer}
use Rattle.speedy.proofs.levels.write.RefWriteBelowBoth.write_below.Goals as goal

pub returns-in_err-write_below : goal.returns-in_err-write_below
unfolding pair_layer
returns-in_err-write_below g c = first_refused is_sequence refl c.from_residual.ensures.1 c.in_err-write_below.ensures

pub returns : goal.returns
unfolding pair_layer
returns g c = second_written is_sequence refl (g.S.Shape.layer.codec _).laws (g.met.W.Writer.additive _ _ _)
    c.in_ok-write_below.ensures c.write_below-2.ensures
