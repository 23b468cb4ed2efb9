use Rattle.std.proofs.Common.{◌≡◌, ℕ, ◌+◌, ◌*◌, ◌^◌, ◌++◌, drop, length, ap, ◌∙◌, arith, List, true, false}
use Rattle.std.specs.Int.{w64, from_le_bytes}
use Rattle.speedy_base.specs.DigitsLemmas.{AreBytes-slice}
use Rattle.speedy_base.specs.declared.endianness.Endianness.TheVariants.{LittleEndian}
use Rattle.speedy_base.specs.Mode.{plain_mode}
use Rattle.speedy_layout.specs.Varint.{VarintParts, varint-accepted}
use Rattle.speedy_layout.proofs.VarintForms.{varint-below_64}
use Rattle.speedy_layout.proofs.VarintCode.{zeros, mark_below, high_at_eight, high_below_eight, EncodesNumber-padded}
use Rattle.speedy_layout.proofs.varint.VarInt64.decode.Goals as goal
use Rattle.speedy_layout.proofs.varint.VarInt64.decode.Goals.{then-more-lt8, else-more-lt8}

pub overflow_sub-low-2 : goal.overflow_sub-low-2
overflow_sub-low-2 c = mark_below _ _ _ c.requires.1

high_is : (c : goal.After-row_known-1) → c.if-more-lt8.high ≡ c.requires.0 * 256 ^ length c.args.rest.now
high_is c =
    elim c.if-more-lt8.branch [
      | then-more-lt8 w ↦ w.high-is
          ∙ high_below_eight (length c.args.rest.now) c.requires.0 c.args.first w.if-more-lt8.true c.requires.1
      | else-more-lt8 w ↦
          w.high-is ∙ high_at_eight (length c.args.rest.now) c.requires.0 c.args.first w.if-more-lt8.false c.requires.1
    ]

digits_are : (c : goal.After-row_known-1)
    → c.from_le_bytes.result ≡ from_le_bytes w64 (c.args.rest.now ++ drop (length c.args.rest.now) zeros)
digits_are c = c.from_le_bytes.ensures ∙ ap
    (λ (xs : List ℕ). from_le_bytes w64 (xs ++ drop (length c.args.rest.now) zeros)) c.copy_from_slice.ensures.after

parts : (c : goal.After-row_known-1)
    → VarintParts c.args.first c.args.rest.now (c.if-more-lt8.high + c.from_le_bytes.result)
parts c = record {
  low = c.requires.0;
  rest = c.from_le_bytes.result;
  first_is = c.requires.1;
  tail_is = EncodesNumber-padded c.from_le_bytes.result c.args.rest.now c.requires.1.at_most_eight
      (AreBytes-slice _ c.type_inv.rest) (digits_are c);
  value_is = ap (λ (i : ℕ). i + c.from_le_bytes.result) (high_is c);
}

pub overflow_add-result : goal.overflow_add-result
overflow_add-result c =
    let mode = plain_mode LittleEndian in
    let small =
    varint-below_64 mode _ _ (varint-accepted mode _ _ _ (parts c) (λ (h : false ≡ true). absurd (cc))) in
    omega arith

pub returns : goal.returns
returns c = parts c
