use Rattle.std.proofs.Common.{ap}
use Rattle.speedy_read.specs.Buffers.{held_state}
use Rattle.speedy_read.proofs.OwnedReaderLemmas.{held_reads}
use Rattle.speedy_read.proofs.owned_reader.OwnedReaderLendingReaderNothingLent.skip_bytes.Goals as goal

pub returns-clause-reads : goal.returns-clause-reads
returns-clause-reads g c = held_reads _ c.skip_bytes.ensures.reads

pub returns-clause-nothing : goal.returns-clause-nothing
returns-clause-nothing g c zero =
    let same = c.skip_bytes.ensures.nothing zero in
    (same.0, ap (λ s. held_state c.args.self.now.reader.ghost_name s) same.1)
