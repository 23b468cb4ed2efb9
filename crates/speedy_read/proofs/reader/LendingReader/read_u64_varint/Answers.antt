use Rattle.std.specs.Prelude.{IsTrue, length}
use Rattle.std.proofs.Common.{refl, ◌∙◌}
use Rattle.speedy_layout.specs.Varint.{IsFewest}
use Rattle.speedy_read.specs.Codes.{demanded, not_demanded}
use Rattle.speedy_read.proofs.VarintLemmas.{varint_first_refused, varint_rest_refused, varint_answered}
use Rattle.speedy_read.proofs.VarintLemmas.{varint_not_written, rest_sized, short_answered}
use Rattle.speedy_read.proofs.reader.LendingReader.read_u64_varint.Given.{Over}
use Rattle.speedy_read.proofs.reader.LendingReader.read_u64_varint.Goals as goal
use Rattle.speedy_read.proofs.reader.LendingReader.read_u64_varint.Goals.{
  else-not-is_written_with-via-then-not-is_written_with+else-demands_written_form,
}
use Rattle.speedy_read.proofs.reader.LendingReader.read_u64_varint.Goals.{
  else-not-is_written_with-via-else-not-is_written_with,
}

pub returns-in_err-first : goal.returns-in_err-first
returns-in_err-first g c = varint_first_refused _ c.from_residual.ensures.1 c.in_err-first.ensures

pub returns-then-first-lt128 : goal.returns-then-first-lt128
returns-then-first-lt128 g c = rw c.from.ensures (short_answered _ c.if-first-lt128.true c.in_ok-first.ensures)

pub returns-in_err-read_bytes : goal.returns-in_err-read_bytes
returns-in_err-read_bytes g c =
    varint_rest_refused _ _ c.length_of.ensures c.in_ok-first.ensures (rest_sized _ _ _ refl c.length_of.ensures)
    c.from_residual-in_err-read_bytes.ensures.1
    c.in_err-read_bytes.ensures

pub returns-then-demands_written_form : goal.returns-then-demands_written_form
returns-then-demands_written_form g c =
    let first = c.in_ok-first.ensures in
    let rest = c.in_ok-read_bytes.ensures in
    varint_not_written _ c.decode-number.ensures
    (demanded (rest.kept.mode ∙ first.kept.mode) c.demands_written_form.ensures c.if-demands_written_form.true)
    (λ h. let fewest = c.is_written_with.ensures.1 h in let other = c.if-not-is_written_with.true in absurd (cc))
    c.error_not_written_form.ensures first _ rest

is_written : (g : Over) (c : goal.After-from-2 g) → IsTrue (g.Self.LendingReader.state c.args.self.now).mode.strict
    → IsFewest (length c.read_bytes.new.output) c.decode-number.result.0
is_written g c strict =
    elim c.else-not-is_written_with.branch [
      | else-not-is_written_with-via-then-not-is_written_with+else-demands_written_form w ↦
          absurd (not_demanded (c.in_ok-read_bytes.ensures.kept.mode ∙ c.in_ok-first.ensures.kept.mode)
          w.demands_written_form.ensures w.if-demands_written_form.false strict)
      | else-not-is_written_with-via-else-not-is_written_with w ↦
          c.is_written_with.ensures.0 w.if-not-is_written_with.false
    ]

pub returns : goal.returns
returns g c =
    let first = c.in_ok-first.ensures in
    let rest = c.in_ok-read_bytes.ensures in
    rw c.from-2.ensures (varint_answered _ c.decode-number.ensures (is_written g c) first _ rest)
