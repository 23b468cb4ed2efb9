-- A text splits at the first place where a byte is found.
use Rattle.std.specs.Prelude.{◌≡◌, ℕ, zero, suc, ◌<◌, ◌==◌, true, false, List, [], ◌∷◌, length, take, drop, get_or}
use Rattle.std.proofs.Common.{ap, arith}
use Rattle.std.proofs.lemmas.Bool.{eqb-true, eqb-false}
use Rattle.speedy_lines.specs.Split.{SplitsAt}

pub split_found : (byte : ℕ) (text : List ℕ) (i : ℕ) → i < length text
    → ((k : ℕ) → k < i → (get_or text k 0 == byte) ≡ false)
    → (get_or text i 0 == byte) ≡ true → SplitsAt byte text (take i text) (drop (suc i) text)
split_found byte [] i within before here = absurd (omega arith)
split_found byte (b ∷ text) zero within before here =
    record { text_is = ap (λ (first : ℕ). first ∷ text) (eqb-true b byte here); prefix_is = tt }
split_found byte (b ∷ text) (suc i) within before here =
    let more = split_found byte text i (omega arith) (λ k l. before (suc k) (omega arith)) here in
    record {
      text_is = ap (λ (rest : List ℕ). b ∷ rest) more.text_is;
      prefix_is = (eqb-false b byte (before 0 (omega arith)), more.prefix_is);
    }
