use Rattle.std.proofs.Common.{refl}
use Rattle.speedy_read.specs.Sequences.{refused_first, refused_second, got_both}
use Rattle.speedy_read.proofs.FrameLemmas.{frame_composes}
use Rattle.speedy_read.proofs.frames.FramedReadTold.read_behind.Goals as goal

pub returns-in_err-length : goal.returns-in_err-length
returns-in_err-length g c = refused_first (frame_composes _ _ _ _) c.from_residual.ensures.1 c.in_err-length.ensures

pub returns-in_err-value : goal.returns-in_err-value
returns-in_err-value g c =
    let length = c.in_ok-length.ensures in
    refused_second (frame_composes _ _ _ _) (g.N.Prefix.numbers.codec.laws _) length
    c.from_residual-in_err-value.ensures.1 (rw length.kept.mode at c.in_err-value.ensures)

pub returns : goal.returns
returns g c =
    let length = c.in_ok-length.ensures in
    got_both (frame_composes _ _ _ _) length (rw length.kept.mode at c.in_ok-value.ensures) refl
