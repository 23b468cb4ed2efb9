use Rattle.std.proofs.Common.{◌≤◌, length, refl, arith}
use Rattle.speedy_read.proofs.StreamLemmas.{ring_served, source_lent}
use Rattle.speedy_read.proofs.stream_reader.StreamReaderLendingReaderRefSliceU8.read_bytes_borrowed_from_reader.Goals
    as goal

pub returns-in-Some : goal.returns-in-Some
returns-in-Some g c =
    let ring = c.args.self.now.ring in (
      (
        refl,
        λ _. tt,
        source_lent ring (c.is_empty.ensures.0 c.if-is_empty.true)
            (rw c.in-Some.is at c.pull_lent.follows.holds-at-none),
      ),
      record { after = tt; held = λ _ _. refl },
    )

pub returns-then-count-len : goal.returns-then-count-len
returns-then-count-len g c =
    let ring = c.args.self.now.ring in
    let held : c.args.count ≤ length ring.bytes = omega (arith, c.if-count-len.true, c.len.ensures.value) in (
      (
        refl,
        λ _. tt,
        ring_served (g.S.Source.source c.args.self.now.source.now) ring held c.consume_lent.ensures.bytes
            c.consume_lent.follows.holds-at-none,
      ),
      record { after = tt; held = λ _ _. refl },
    )
