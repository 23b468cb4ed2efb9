use Rattle.speedy_layout.specs.Growth.{newer_frame_read}
use Rattle.speedy_layout.proofs.laws.newer_frame_is_read.Goals as goal

pub returns : goal.returns
returns g c f v w bytes are h =
    newer_frame_read f (g.N.Prefix.numbers.codec.format f) (g.A.Layout.layout.laws f) (g.W.Whole.whole.laws f) v w bytes
    are h
