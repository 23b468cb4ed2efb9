use Rattle.std.proofs.Common.{◌≡◌, ℕ, ◌+◌, ◌-◌, length, take, drop, refl, ◌∙◌, ap, arith}
use Rattle.std.proofs.lemmas.List.{length-append, length-drop, length-take-le}
use Rattle.speedy_read.proofs.ByteLemmas.{prefix_of}
use Rattle.speedy_read.proofs.ConstantLemmas.{none_compared, chunk_compared, comparison_refused, chunk_fewer, all_there}
use Rattle.speedy_read.proofs.ConstantLemmas.{constant_read, constant_differs}
use Rattle.speedy_read.proofs.magic.read_constant.Goals as goal

pub loop-at-init : goal.loop-at-init
loop-at-init g c = (omega arith, refl, none_compared c.args.constant.now, λ _. (refl, refl))

pub returns-in_err-read_bytes-clause-reads : goal.returns-in_err-read_bytes-clause-reads
returns-in_err-read_bytes-clause-reads g c =
    let size = length-take-le c.min-size.result c.loop-at.chunk (omega (arith, c.loop-at.invariant.1)) in
    comparison_refused c.args.constant.now c.loop-at.at _ (omega (arith, size)) c.loop-at.invariant.2
    c.from_residual.ensures.1 c.in_err-read_bytes.ensures

pub returns-in_err-read_bytes-clause-fewer : goal.returns-in_err-read_bytes-clause-fewer
returns-in_err-read_bytes-clause-fewer g c told few =
    chunk_fewer _ _ c.loop-at.invariant.2 c.from_residual.ensures.1 c.in_err-read_bytes.ensures

pub loop-at-smaller : goal.loop-at-smaller
loop-at-smaller g c = omega arith

pub loop-at-preserved : goal.loop-at-preserved
loop-at-preserved g c =
    let size = length-take-le c.min-size.result c.loop-at.chunk (omega (arith, c.loop-at.invariant.1)) in
    let suffix : (c.loop-at.at + c.min-size.result) - c.loop-at.at ≡ c.min-size.result = omega arith in (
      omega arith,
      length-append c.read_bytes.new.output (drop c.min-size.result c.loop-at.chunk)
          ∙ omega (arith, c.read_bytes.auto.output, length-drop c.min-size.result c.loop-at.chunk, size),
      chunk_compared c.args.constant.now c.loop-at.at _ _ size (omega arith) c.loop-at.invariant.2
          c.in_ok-read_bytes.ensures (prefix_of c.min-size.result c.read_bytes.new.output
          (drop c.min-size.result c.loop-at.chunk) (c.read_bytes.auto.output ∙ size))
          (ap (λ (n : ℕ). take n (drop c.loop-at.at c.args.constant.now)) suffix) c.are_still_the_same-same.ensures,
      λ none. let l = ap length none in absurd (omega arith),
    )

pub returns-then-not-same-clause-reads : goal.returns-then-not-same-clause-reads
returns-then-not-same-clause-reads g c =
    constant_differs c.args.constant.now (omega arith) (rw c.if-not-same.true at c.loop-at.invariant.2) (
      _,
      refl,
      c.error_expected_constant.ensures,
    )

pub returns-then-not-same-clause-nothing : goal.returns-then-not-same-clause-nothing
returns-then-not-same-clause-nothing g c none =
    let same = (c.loop-at.invariant.3 none).1 in
    let not_same = c.if-not-same.true in
    absurd (cc)

pub returns-then-not-same-clause-fewer : goal.returns-then-not-same-clause-fewer
returns-then-not-same-clause-fewer g c told few =
    absurd (all_there c.args.constant.now (omega arith) c.loop-at.invariant.2 told few)

pub returns-clause-fewer : goal.returns-clause-fewer
returns-clause-fewer g c told few = absurd (all_there c.args.constant.now (omega arith) c.loop-at.invariant.2 told few)

pub returns-clause-reads : goal.returns-clause-reads
returns-clause-reads g c =
    constant_read c.args.constant.now (omega arith) (rw c.if-not-same.false at c.loop-at.invariant.2)

pub returns-clause-nothing : goal.returns-clause-nothing
returns-clause-nothing g c none = (refl, ap g.R.LendingReader.state (c.loop-at.invariant.3 none).0)
