use Rattle.speedy_layout.specs.Lists.{list}
use Rattle.speedy_layout.specs.Numbers.{unsigned_number_laws}
use Rattle.speedy_write.specs.BehindCounts.{items_written}
use Rattle.speedy_write.specs.Sequences.{is_sequence, first_refused, second_written}
use Rattle.speedy.specs.Layers.{at_level, layer_of, list_layer}
use Rattle.speedy.specs.WriteLayers.{counts_same}
use Rattle.speedy.proofs.levels.write.RefWriteBelowListed.write_below.Goals as goal

pub returns-in_err-write_length : goal.returns-in_err-write_length
unfolding layer_of list_layer list
returns-in_err-write_length g c =
    let seen = at_level g.T.Recursive.layer (g.B.Levels.levels c.args.self.now.now) in
    first_refused is_sequence (counts_same (g.S.Shape.layer.view seen.view) _ _ c.as_slice-items.ensures.value)
    c.from_residual.ensures.1 c.in_err-write_length.ensures.writes

pub returns : goal.returns
unfolding layer_of list_layer list
returns g c =
    let seen = at_level g.T.Recursive.layer (g.B.Levels.levels c.args.self.now.now) in
    let view = g.S.Shape.layer.view seen.view in
    second_written is_sequence (counts_same view _ _ c.as_slice-items.ensures.value) (unsigned_number_laws 4)
    (g.met.W.Writer.additive _ _ _) c.in_ok-write_length.ensures.writes (items_written _ view _ c.write_items.ensures)
