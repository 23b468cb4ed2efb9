use Rattle.std.proofs.Common.{sym}
use Rattle.speedy_layout.specs.Texts.{raw_bytes, raw_bytes_laws}
use Rattle.speedy_write.specs.Sequences.{form_written}
use Rattle.speedy_write.proofs.leaves.UuidWritable.write_to.Goals as goal

pub returns : goal.returns
unfolding raw_bytes
returns g c =
    form_written (λ mode. raw_bytes_laws 16) (sym c.into_bytes-bytes.ensures, search) c.write_bytes.ensures.writes
