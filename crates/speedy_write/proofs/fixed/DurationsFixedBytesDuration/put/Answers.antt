use Rattle.speedy_layout.specs.Format.{Parts-joined}
use Rattle.speedy_layout.specs.Sequences.{sequence}
use Rattle.speedy_write.proofs.fixed.DurationsFixedBytesDuration.put.Goals as goal

pub returns : goal.returns
unfolding sequence
returns c e same = c.encode-seconds.ensures.written e _
    (Parts-joined c.put_number.new.output c.put_number-2.new.output (c.put_number.ensures e same)
    (c.put_number-2.ensures e same))
