use Rattle.speedy_write.proofs.buffering.BufferingCollectorWriter.write_bytes_before.Goals as goal

pub returns-clause-writes : goal.returns-clause-writes
returns-clause-writes g c = rw c.reserve.ensures at c.write_bytes-2.ensures.writes

pub returns-clause-full : goal.returns-clause-full
returns-clause-full g c = rw c.reserve.ensures at c.write_bytes-2.ensures.full
