use Rattle.std.proofs.Common.{refl}
use Rattle.speedy_layout.specs.Growing.{some_bytes_laws}
use Rattle.speedy_write.specs.Sequences.{is_sequence, first_refused, second_written}
use Rattle.speedy_write.proofs.whole.write_present.Goals as goal

pub returns-in_err-write_some : goal.returns-in_err-write_some
returns-in_err-write_some g c = first_refused is_sequence refl c.from_residual.ensures.1 c.in_err-write_some.ensures

pub returns : goal.returns
returns g c =
    second_written is_sequence refl (λ f. some_bytes_laws (g.A.Layout.layout.laws f)) (g.met.W.Writer.additive _ _ _)
    c.in_ok-write_some.ensures c.write_whole.ensures
