use Rattle.std.proofs.Common.{refl}
use Rattle.speedy_read.specs.Sequences.{pair_composes, refused_first, refused_second, got_both}
use Rattle.speedy.specs.Layers.{pair_layer}
use Rattle.speedy.proofs.levels.read.RefReadBelowBoth.read_below.Goals as goal

pub returns-in_err-first : goal.returns-in_err-first
unfolding pair_layer
returns-in_err-first g c = refused_first pair_composes c.from_residual.ensures.1 c.in_err-first.ensures

pub returns-in_err-second : goal.returns-in_err-second
unfolding pair_layer
returns-in_err-second g c =
    let first = c.in_ok-first.ensures in
    refused_second pair_composes ((g.S.Shape.layer.codec _).laws _) first c.from_residual-in_err-second.ensures.1
    (rw first.kept.mode at c.in_err-second.ensures)

pub returns : goal.returns
unfolding pair_layer
returns g c =
    let first = c.in_ok-first.ensures in
    got_both pair_composes first (rw first.kept.mode at c.in_ok-second.ensures) refl
