use Rattle.std.proofs.Common.{ap}
use Rattle.speedy_read.specs.ReadingLemmas.{refused_as, got_as}
use Rattle.speedy_read.proofs.OwnedLemmas.{owned_read, memory_refused}
use Rattle.speedy.specs.Layers.{at_level, layer_of, owned_layer}
use Rattle.speedy.proofs.levels.read.RefReadBelowBoxed.read_below.Goals as goal

pub returns-in_err-part : goal.returns-in_err-part
unfolding layer_of owned_layer
returns-in_err-part g c = owned_read (refused_as c.from_residual.ensures.1 c.in_err-part.ensures)

pub returns-in-Ok : goal.returns-in-Ok
unfolding layer_of owned_layer
returns-in-Ok g c =
    let seen = at_level g.T.Recursive.layer (g.B.Levels.levels c.args.self.now.now) in
    owned_read (got_as (ap (g.S.Shape.layer.view seen.view) c.in-Ok.ensures.ok) c.in_ok-part.ensures)

pub returns : goal.returns
unfolding layer_of owned_layer
returns g c =
    memory_refused _ c.in_ok-part.ensures.kept c.in_ok-part.ensures.answer.no_fault c.error_out_of_memory.ensures
