use Rattle.std.proofs.Common.{refl}
use Rattle.speedy_layout.specs.Flags.{flag_codec}
use Rattle.speedy_read.specs.Sequences.{refused_first, refused_second, got_both}
use Rattle.speedy_read.specs.Flags.{alternative_composes}
use Rattle.speedy_read.proofs.flags.ResultReadFrom.read_from.Goals as goal

pub returns-in_err-is_ok : goal.returns-in_err-is_ok
returns-in_err-is_ok g c =
    refused_first (alternative_composes _ {L = g.T.Layout.layout.format _} {M = g.U.Layout.layout.format _})
    c.from_residual.ensures.1
    c.in_err-is_ok.ensures

pub returns-in_err-value : goal.returns-in_err-value
returns-in_err-value g c =
    let flag = c.in_ok-is_ok.ensures in
    refused_second (alternative_composes _) (flag_codec.laws _) (rw c.if-is_ok.true at flag)
    c.from_residual-in_err-value.ensures.1 (rw flag.kept.mode at c.in_err-value.ensures)

pub returns-in_err-error : goal.returns-in_err-error
returns-in_err-error g c =
    let flag = c.in_ok-is_ok.ensures in
    refused_second (alternative_composes _) (flag_codec.laws _) (rw c.if-is_ok.false at flag)
    c.from_residual-in_err-error.ensures.1 (rw flag.kept.mode at c.in_err-error.ensures)

pub returns-in_ok-value : goal.returns-in_ok-value
returns-in_ok-value g c =
    let flag = c.in_ok-is_ok.ensures in
    got_both (alternative_composes _) (rw c.if-is_ok.true at flag) (rw flag.kept.mode at c.in_ok-value.ensures) refl

pub returns-in_ok-error : goal.returns-in_ok-error
returns-in_ok-error g c =
    let flag = c.in_ok-is_ok.ensures in
    got_both (alternative_composes _) (rw c.if-is_ok.false at flag)
    (rw flag.kept.mode at c.in_ok-error.ensures) refl
