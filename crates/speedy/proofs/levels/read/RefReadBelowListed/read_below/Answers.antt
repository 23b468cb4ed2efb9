use Rattle.std.proofs.Common.{refl}
use Rattle.speedy_layout.specs.Numbers.{unsigned_number_laws}
use Rattle.speedy_read.specs.Sequences.{refused_first, second_decides}
use Rattle.speedy_read.proofs.ListLemmas.{list_composes}
use Rattle.speedy.specs.Layers.{layer_of, list_layer}
use Rattle.speedy.proofs.levels.read.RefReadBelowListed.read_below.Goals as goal

pub returns-in_err-length : goal.returns-in_err-length
unfolding layer_of list_layer
returns-in_err-length g c = refused_first (list_composes _ _) c.from_residual.ensures.1 c.in_err-length.ensures

pub returns : goal.returns
unfolding layer_of list_layer
returns g c =
    let number = c.in_ok-length.ensures in
    second_decides (list_composes _ _) (unsigned_number_laws 4 _) number
    (rw number.kept.mode at c.read_items.ensures) (λ _. refl)
