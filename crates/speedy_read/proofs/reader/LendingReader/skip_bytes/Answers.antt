use Rattle.std.proofs.Common.{ℕ, drop, ◌∙◌, subst, refl, arith}
use Rattle.std.proofs.lemmas.List.{length-append, length-drop, length-take-le}
use Rattle.speedy_read.specs.ReadingLemmas.{none_so_far}
use Rattle.speedy_read.proofs.ByteLemmas.{SkippedSoFar, more_skipped, all_skipped, chunk_refused}
use Rattle.speedy_read.proofs.reader.LendingReader.skip_bytes.Goals as goal

pub loop-left-init : goal.loop-left-init
loop-left-init g c = (omega arith, refl, none_so_far (omega arith), λ _. refl)

pub loop-left-preserved : goal.loop-left-preserved
loop-left-preserved g c =
    let size = length-take-le c.min-size.result c.loop-left.chunk (omega (arith, c.loop-left.invariant.1)) in (
      omega arith,
      length-append c.read_bytes.new.output (drop c.min-size.result c.loop-left.chunk)
          ∙ omega (arith, c.read_bytes.auto.output, length-drop c.min-size.result c.loop-left.chunk, size),
      more_skipped _ _ _ c.loop-left.invariant.2 c.in_ok-read_bytes.ensures (omega (arith, size)),
      λ zero. absurd (omega arith),
    )

pub returns-clause-reads : goal.returns-clause-reads
returns-clause-reads g c =
    all_skipped (subst (λ (n : ℕ). SkippedSoFar n (g.Self.LendingReader.state c.args.self.now)
    (g.Self.LendingReader.state c.loop-left.self)) (omega arith) c.loop-left.invariant.2)

pub returns-in_err-read_bytes-clause-reads : goal.returns-in_err-read_bytes-clause-reads
returns-in_err-read_bytes-clause-reads g c =
    let size = length-take-le c.min-size.result c.loop-left.chunk (omega (arith, c.loop-left.invariant.1)) in
    chunk_refused {new = g.Self.LendingReader.state c.read_bytes.new.self} _ _ (omega (arith, size))
    c.loop-left.invariant.2 c.from_residual.ensures.1
    c.in_err-read_bytes.ensures
