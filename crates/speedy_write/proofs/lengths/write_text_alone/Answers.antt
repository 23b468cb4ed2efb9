use Rattle.speedy_write.specs.BehindCounts.{text_bytes_written}
use Rattle.speedy_write.proofs.lengths.write_text_alone.Goals as goal

pub returns : goal.returns
returns g c =
    rw c.as_bytes-bytes.ensures.value at
    (text_bytes_written c.as_bytes-bytes.ensures.value c.utf8.text c.write_bytes.ensures.writes)
