use Rattle.speedy_layout.specs.Growth.{older_frame_read}
use Rattle.speedy_layout.proofs.laws.older_frame_is_read.Goals as goal

pub returns : goal.returns
returns g c f v bytes are h =
    older_frame_read f (g.N.Prefix.numbers.codec.format f) (g.A.Layout.layout.laws f) (g.B.Layout.layout.laws f)
    (g.W.Whole.whole.laws f) v bytes are h
