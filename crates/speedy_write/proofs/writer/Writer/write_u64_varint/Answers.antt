use Rattle.std.proofs.Common.{◌≡◌, ℕ, List, subst}
use Rattle.speedy_base.specs.Mode.{Mode}
use Rattle.speedy_layout.specs.Varint.{varint, varint_laws}
use Rattle.speedy_write.specs.Sequences.{form_written}
use Rattle.speedy_write.proofs.NumberLemmas.{small_written}
use Rattle.speedy_write.proofs.writer.Writer.write_u64_varint.Goals as goal

renamed : (mode : Mode) (m n : ℕ) (bytes : List ℕ) → m ≡ n → (varint mode).writes m bytes
    → (varint mode).writes n bytes
renamed mode m n bytes same h = subst (λ (i : ℕ). (varint mode).writes i bytes) same h

pub returns-then-value-lt128 : goal.returns-then-value-lt128
returns-then-value-lt128 g c = record {
  writes = form_written varint_laws (small_written _ _ c.if-value-lt128.true) c.write_bytes.ensures.writes;
  full = c.write_bytes.ensures.full;
}

pub returns : goal.returns
returns g c = record {
  writes = form_written varint_laws (renamed _ _ _ _ c.from.ensures (c.encode-count.ensures.written _))
      c.write_bytes-2.ensures.writes;
  full = c.write_bytes-2.ensures.full;
}
