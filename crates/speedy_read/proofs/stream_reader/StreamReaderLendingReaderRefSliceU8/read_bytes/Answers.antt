use Rattle.std.proofs.Common.{◌≤◌, length, arith}
use Rattle.speedy_read.proofs.StreamLemmas.{ring_served}
use Rattle.speedy_read.proofs.stream_reader.StreamReaderLendingReaderRefSliceU8.read_bytes.Goals as goal

pub returns-then-output-len-clause-reads : goal.returns-then-output-len-clause-reads
returns-then-output-len-clause-reads g c =
    let held : length c.args.output.now ≤ length c.args.self.now.ring.bytes =
    omega (arith, c.if-output-len.true, c.len.ensures.value) in
    ring_served (g.S.Source.source c.args.self.now.source.now) c.args.self.now.ring held c.consume_into.ensures.output
    c.consume_into.ensures.rest
