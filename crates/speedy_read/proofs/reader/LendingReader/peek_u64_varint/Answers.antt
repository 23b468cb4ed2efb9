use Rattle.std.specs.Prelude.{◌-◌, IsTrue, length, take, drop}
use Rattle.std.proofs.Common.{refl, ◌∙◌}
use Rattle.speedy_layout.specs.Varint.{IsFewest, varint-accepted}
use Rattle.speedy_read.specs.Codes.{demanded, not_demanded}
use Rattle.speedy_read.proofs.VarintLemmas.{varint_first_not_peeked, whole_sized, rest_not_peeked, varint_peeked}
use Rattle.speedy_read.proofs.VarintLemmas.{varint_peek_not_written}
use Rattle.speedy_read.proofs.reader.LendingReader.peek_u64_varint.Given.{Over}
use Rattle.speedy_read.proofs.reader.LendingReader.peek_u64_varint.Goals as goal
use Rattle.speedy_read.proofs.reader.LendingReader.peek_u64_varint.Goals.{
  else-not-is_written_with-via-then-not-is_written_with+else-demands_written_form,
}
use Rattle.speedy_read.proofs.reader.LendingReader.peek_u64_varint.Goals.{
  else-not-is_written_with-via-else-not-is_written_with,
}

pub returns-in_err-first : goal.returns-in_err-first
returns-in_err-first g c = varint_first_not_peeked _ c.from_residual.ensures.1 c.in_err-first.ensures

pub returns-in_err-peek_bytes : goal.returns-in_err-peek_bytes
returns-in_err-peek_bytes g c =
    rest_not_peeked _ _ _ (whole_sized _ _ _ refl c.length_of.ensures) c.length_of.ensures c.in_ok-first.ensures
    c.from_residual-in_err-peek_bytes.ensures.1
    c.in_err-peek_bytes.ensures

pub returns-then-demands_written_form : goal.returns-then-demands_written_form
returns-then-demands_written_form g c =
    let first = c.in_ok-first.ensures in
    let rest = c.in_ok-peek_bytes.ensures in
    varint_peek_not_written _ _ _ first c.decode-number.ensures
    (demanded (rest.kept.mode ∙ first.kept.mode) c.demands_written_form.ensures c.if-demands_written_form.true)
    (λ h. let fewest = c.is_written_with.ensures.1 h in let other = c.if-not-is_written_with.true in absurd (cc))
    c.error_not_written_form.ensures (whole_sized _ _ _ refl c.length_of.ensures) rest

is_written : (g : Over) (c : goal.After-from g) → IsTrue (g.Self.LendingReader.state c.args.self.now).mode.strict
    → IsFewest (length (take (length c.peek_bytes.new.output - 1) (drop 1 c.peek_bytes.new.output)))
    c.decode-number.result.0
is_written g c strict =
    elim c.else-not-is_written_with.branch [
      | else-not-is_written_with-via-then-not-is_written_with+else-demands_written_form w ↦
          absurd (not_demanded (c.in_ok-peek_bytes.ensures.kept.mode ∙ c.in_ok-first.ensures.kept.mode)
          w.demands_written_form.ensures w.if-demands_written_form.false strict)
      | else-not-is_written_with-via-else-not-is_written_with w ↦
          c.is_written_with.ensures.0 w.if-not-is_written_with.false
    ]

pub returns : goal.returns
returns g c =
    let first = c.in_ok-first.ensures in
    let rest = c.in_ok-peek_bytes.ensures in
    rw c.from.ensures
    (varint_peeked _ _ _ first (varint-accepted _ _ _ _ c.decode-number.ensures (is_written g c))
    (whole_sized _ _ _ refl c.length_of.ensures) rest)
