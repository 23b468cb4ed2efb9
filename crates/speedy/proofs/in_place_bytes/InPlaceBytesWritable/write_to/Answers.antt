use Rattle.std.proofs.Common.{refl}
use Rattle.speedy_layout.specs.Texts.{raw_bytes, raw_bytes_laws}
use Rattle.speedy_write.specs.Sequences.{form_written}
use Rattle.speedy.proofs.in_place_bytes.InPlaceBytesWritable.write_to.Goals as goal

pub returns : goal.returns
unfolding raw_bytes
returns g c = form_written (λ mode. raw_bytes_laws g.row.N) (refl, search) c.write_bytes.ensures.writes
