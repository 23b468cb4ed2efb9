-- Numbers that are appended a step at a time.
use Rattle.std.specs.Prelude.{◌≡◌, ℕ, ◌+◌, ◌-◌, ◌*◌, ◌/◌, ◌<◌, ◌≤◌, List, ◌++◌, length, take, drop}
use Rattle.std.proofs.Common.{sym, ◌∙◌, ap, ap₂, subst, arith}
use Rattle.std.proofs.Math.Nat.{add-mul, le-div_iff_mul-le}
use Rattle.std.proofs.Math.Seq.{take-append-add}
use Rattle.std.proofs.lemmas.List.{length-take-le, length-drop, take-append-drop}
use Rattle.speedy_read.proofs.ChunkLemmas.{within_all}

-- n numbers are within the digits
pub steps_within : {width size : ℕ} → 0 < width → size ≡ width → (n : ℕ) (digits : List ℕ) → n ≤ length digits / size
    → n * width ≤ length digits
steps_within positive is n digits within =
    subst (λ s. n * s ≤ length digits) is ((le-div_iff_mul-le (subst (λ (w : ℕ). 0 < w) (sym is) positive)).0 within)

-- and with the last step all of them
pub steps_done : {width size : ℕ} → 0 < width → size ≡ width → (n at : ℕ) (digits : List ℕ) → length digits ≡ n * width
    → length digits / size ≤ at → length digits ≤ at * width
steps_done {width} {size} positive is n at digits sized done =
    let same : n * size ≡ length digits = ap (λ s. n * s) is ∙ sym sized in
    let counted : n ≤ length digits / size =
    (le-div_iff_mul-le (subst (λ (w : ℕ). 0 < w) (sym is) positive)).1 (omega (arith, same)) in
    let all = within_all width n at (omega (arith, counted, done)) in
    omega (arith, all, sized)

take_more : (a n : ℕ) (xs : List ℕ) → a ≤ length xs → take (a + n) xs ≡ take a xs ++ take n (drop a xs)
take_more a n xs within =
    ap₂ (λ (k : ℕ) (ys : List ℕ). take k ys) (ap (λ k. k + n) (sym (length-take-le a xs within)))
    (sym (take-append-drop a xs))
    ∙ take-append-add (take a xs) (drop a xs) n

module _ (at some : ℕ) {width first second : ℕ} (one : first ≡ width) (two : second ≡ width) (digits : List ℕ)
    (within : (at + some) * width ≤ length digits) where
  whole : (at + some) * width ≡ at * width + some * width
  whole = add-mul at some width

  -- the digits of a step
  abbrev part : List ℕ
  part = take ((at + some) * second - at * first) (drop (at * first) digits)

  part_is : part ≡ take (some * width) (drop (at * width) digits)
  part_is =
      let bytes : (at + some) * second - at * first ≡ some * width =
      ap₂ (λ (s f : ℕ). (at + some) * s - at * f) two one ∙ (let w = whole in omega (arith, w)) in
      ap₂ (λ (k i : ℕ). take k (drop i digits)) bytes (ap (λ f. at * f) one)

  pub step_length : length part ≡ some * width
  step_length = ap length part_is ∙ length-take-le (some * width) (drop (at * width) digits)
      (let l = length-drop (at * width) digits in let w = whole in omega (arith, l, w, within))

  pub step_behind : take ((at + some) * width) digits ≡ take (at * width) digits ++ part
  step_behind =
      ap (λ n. take n digits) whole
      ∙ (take_more (at * width) (some * width) digits (let w = whole in omega (arith, w, within))
      ∙ ap (λ p. take (at * width) digits ++ p) (sym part_is))
