use Rattle.std.proofs.Common.{refl}
use Rattle.speedy_layout.specs.Flags.{flag_codec}
use Rattle.speedy_read.specs.Sequences.{refused_first, refused_second, got_both}
use Rattle.speedy_read.specs.Flags.{option_composes, unit_read}
use Rattle.speedy.specs.Layers.{option_layer}
use Rattle.speedy.proofs.levels.read.RefReadBelowOptional.read_below.Goals as goal

pub returns-in_err-is_some : goal.returns-in_err-is_some
unfolding option_layer
returns-in_err-is_some g c = refused_first (option_composes _) c.from_residual.ensures.1 c.in_err-is_some.ensures

pub returns-then-not-is_some : goal.returns-then-not-is_some
unfolding option_layer
returns-then-not-is_some g c =
    let flag = c.in_ok-is_some.ensures in
    got_both (option_composes _) (rw c.if-not-is_some.true at flag) (unit_read {seen = λ x. x} {x = tt}) refl

pub returns-in_err-part : goal.returns-in_err-part
unfolding option_layer
returns-in_err-part g c =
    let flag = c.in_ok-is_some.ensures in
    refused_second (option_composes _) (flag_codec.laws _) (rw c.if-not-is_some.false at flag)
    c.from_residual-in_err-part.ensures.1 (rw flag.kept.mode at c.in_err-part.ensures)

pub returns : goal.returns
unfolding option_layer
returns g c =
    let flag = c.in_ok-is_some.ensures in
    got_both (option_composes _) (rw c.if-not-is_some.false at flag)
    (rw flag.kept.mode at c.in_ok-part.ensures) refl
