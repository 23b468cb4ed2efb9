use Rattle.std.proofs.Common.{◌≡◌, ℕ, ◌+◌, ◌-◌, ◌/◌, ◌^◌, sym, ap, ◌∙◌, subst, refl, arith, ◌<◌}
use Rattle.std.specs.Int.{w64}
use Rattle.speedy_base.specs.declared.endianness.Endianness.TheVariants.{LittleEndian}
use Rattle.speedy_base.specs.DigitsLemmas.{listed-all, EncodesNumber-to_le_bytes}
use Rattle.speedy_layout.specs.Varint.{byte_power, capacity-below_64}
use Rattle.speedy_layout.specs.Zigzag.{varint_number}
use Rattle.speedy_layout.proofs.VarintCode.{low_below, no_low, first_byte_is, first_byte_fits, written}
use Rattle.speedy_layout.proofs.varint.VarInt64.encode.Goals as goal
use Rattle.speedy_layout.proofs.varint.VarInt64.encode.Goals.{then-more-lt8, else-more-lt8}

low_is : (c : goal.After-row_known-1) → c.if-more-lt8.low ≡ varint_number c.args.self / 256 ^ c.more_bytes-more.result
low_is c =
    elim c.if-more-lt8.branch [
      | then-more-lt8 w ↦ w.low-is ∙ ap (λ (i : ℕ). varint_number c.args.self / i)
          (byte_power c.more_bytes-more.result)
      | else-more-lt8 w ↦ w.low-is ∙ no_low c.more_bytes-more.result (varint_number c.args.self)
          c.more_bytes-more.ensures.at_most_eight w.if-more-lt8.false c.more_bytes-more.ensures.enough
    ]

fits : (c : goal.After-row_known-1) → (256 - 256 / 2 ^ c.more_bytes-more.result) + c.if-more-lt8.low < 256
fits c =
    let k = c.more_bytes-more.result in
    let small = subst (λ (i : ℕ). i < 2 ^ (7 - k)) (sym (low_is c))
    (low_below k (varint_number c.args.self) c.more_bytes-more.ensures.enough) in
    first_byte_fits k c.if-more-lt8.low _
    (first_byte_is k c.if-more-lt8.low c.more_bytes-more.ensures.at_most_eight small)

pub overflow_add-first : goal.overflow_add-first
overflow_add-first c = let small = fits c in omega arith

pub overflow_cast-first : goal.overflow_cast-first
overflow_cast-first c = let small = fits c in omega arith

pub returns-clause-written : goal.returns-clause-written
returns-clause-written c = λ e.
    let n = varint_number c.args.self in
    let digits = EncodesNumber-to_le_bytes w64 LittleEndian n c.to_le_bytes-digits.result refl
    (capacity-below_64 c.more_bytes-more.result n c.more_bytes-more.ensures.at_most_eight
    c.more_bytes-more.ensures.enough) c.to_le_bytes-digits.ensures in
    let width = digits.width_is in
    written e n c.more_bytes-more.result c.if-more-lt8.low c.to_le_bytes-digits.result _
    c.more_bytes-more.ensures.at_most_eight c.more_bytes-more.ensures.enough c.more_bytes-more.ensures.no_shorter
    (low_is c) digits (listed-all c.to_le_bytes-digits.result 8 width)
