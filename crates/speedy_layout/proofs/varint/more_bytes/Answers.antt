use Rattle.std.proofs.Common.{◌≡◌, ℕ, zero, suc, ◌+◌, ◌-◌, ◌*◌, ◌/◌, ◌^◌, ◌<◌, ◌≤◌, min, ap, ◌∙◌, arith}
use Rattle.std.proofs.Math.Nat.{pow-suc}
use Rattle.std.proofs.lemmas.Nat.{leading_length}
use lib.Bits.{bit_or, or_step, or_zero_r}
use lib.Count.{count_leading_zeros}
use Rattle.speedy_layout.specs.Varint.{HasNoShorter}
use Rattle.speedy_layout.proofs.VarintCode.{enough_bytes, no_shorter_bytes}
use Rattle.speedy_layout.proofs.varint.more_bytes.Goals as goal

-- what is more than 0 has a bit
some_bit : (bits n : ℕ) → 1 ≤ n → n < 2 ^ bits → 1 ≤ bits
some_bit zero n l h = absurd (omega arith)
some_bit (suc bits) n l h = omega arith

-- a seventh of a place below 63, and 8 of 63
seventh : (top : ℕ) → top ≤ 63 → (9 * top + 8) / 64 ≡ min (top / 7) 8
seventh top l = omega arith

-- the lowest bit is set
odd : (n : ℕ) → bit_or n 1 ≡ (n / 2) * 2 + 1
odd n = let step = or_step n 1 in let none = or_zero_r (n / 2) in omega arith

-- a greater power of 2 does not tell an odd number from the one below
own : (k n : ℕ) → HasNoShorter k ((n / 2) * 2 + 1) → HasNoShorter k n
own k n h j l =
    let some = h j l in
    let one_more : 7 * (j + 1) ≡ suc (7 * j + 6) = omega arith in
    let even : 2 ^ (7 * (j + 1)) ≡ 2 ^ (7 * j + 6) * 2 = ap (λ (i : ℕ). 2 ^ i) one_more ∙ pow-suc 2 (7 * j + 6) in
    omega arith

-- n bits has the number with that bit, and at least one
bits : (n : ℕ) → n < 2 ^ 64
    → (b : ℕ) × (count_leading_zeros 64 (bit_or n 1) + b ≡ 64) × (1 ≤ b) × ((n / 2) * 2 + 1 < 2 ^ b)
    × (2 ^ b ≤ 2 * ((n / 2) * 2 + 1) + 1)
bits n small =
    let is = odd n in
    let found = leading_length 64 (bit_or n 1) (omega arith) in
    let zeros = found.1 in
    let below = found.2 in
    let above = found.3 in
    let some = some_bit found.0 (bit_or n 1) (omega arith) below in
    (found.0, omega arith, some, omega arith, omega arith)

pub overflow_sub-top : goal.overflow_sub-top
overflow_sub-top c = let b = bits c.args.number (omega arith) in let zeros = b.1 in let some = b.2 in omega arith

pub returns : goal.returns
returns c =
    let n = c.args.number in
    let b = bits n (omega arith) in
    let zeros = b.1 in
    let some = b.2 in
    let top : 63 - count_leading_zeros 64 (bit_or n 1) ≡ b.0 - 1 = omega arith in
    let is = ap (λ (i : ℕ). (9 * i + 8) / 64) top ∙ seventh (b.0 - 1) (omega arith) in
    let holds = enough_bytes _ ((n / 2) * 2 + 1) b.0 is (omega arith) b.3 in
    record {
      at_most_eight = omega (arith, is);
      enough = omega arith;
      no_shorter = own _ n (no_shorter_bytes _ ((n / 2) * 2 + 1) b.0 is b.4);
    }
