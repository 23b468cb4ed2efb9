-- A stretch of a list, and what is written behind it.
use Rattle.std.proofs.Common.{◌≡◌, ℕ, ◌+◌, ◌-◌, ◌≤◌, List, [], ◌∷◌, ◌++◌, length, take, drop, slice_range, zero, suc}
use Rattle.std.proofs.Common.{refl, sym, ap, ◌∙◌, arith, length-append, length-drop, length-take-le}
use Rattle.std.proofs.lemmas.List.{take-take, take_at, drop-take, drop-drop, drop_at, take-append-le}
use Rattle.std.proofs.lemmas.Slice.{between_is}
use Rattle.std.proofs.Math.Seq.{take-add, take-append-add}
use Rattle.std.specs.List.{copy_within}
use Rattle.speedy_base.specs.Ring.{overwritten}

-- a stretch goes on with what lies behind it
pub stretch_longer : (xs : List ℕ) (start end n : ℕ) → start ≤ end
    → slice_range xs start (end + n) ≡ slice_range xs start end ++ take n (drop end xs)
stretch_longer xs start end n p =
    let size : end + n - start ≡ (end - start) + n = omega arith in
    let behind : start + (end - start) ≡ end = omega arith in
    ap (λ k. take k (drop start xs)) size ∙ take-add (end - start) n (drop start xs)
    ∙ ap (λ l. take (end - start) (drop start xs) ++ take n l)
    (drop-drop (end - start) start xs ∙ ap (λ k. drop k xs) behind)

-- and by no more than was lent there
pub stretch_appended : (xs : List ℕ) (start end n lent : ℕ) → start ≤ end → n ≤ lent
    → slice_range xs start (end + n) ≡ slice_range xs start end ++ take n (take lent (drop end xs))
stretch_appended xs start end n lent p q =
    stretch_longer xs start end n p ∙ ap (λ l. slice_range xs start end ++ l) (sym (take-take n lent (drop end xs) q))

-- a stretch without its front
pub stretch_consumed : (xs : List ℕ) (start end n : ℕ) → start + n ≤ end
    → slice_range xs (start + n) end ≡ drop n (slice_range xs start end)
stretch_consumed xs start end n p =
    let size : end - start ≡ n + (end - (start + n)) = omega arith in
    sym (ap (λ k. drop n (take k (drop start xs))) size ∙ drop-take n (end - (start + n)) (drop start xs)
    ∙ ap (take (end - (start + n))) (drop-drop n start xs))

-- a stretch that was moved to the front
pub stretch_moved : (xs : List ℕ) (start end : ℕ) → start ≤ end → end ≤ length xs
    → slice_range (copy_within xs start end 0) 0 (end - start) ≡ slice_range xs start end
stretch_moved xs start end p q =
    let size : end - start - 0 ≡ end - start = omega arith in
    ap (λ k. take k (copy_within xs start end 0)) size
    ∙ take_at (slice_range xs start end) (drop (0 + (end - start)) xs) (end - start)
    (length-take-le (end - start) (drop start xs) (omega (arith, length-drop start xs)))

-- a stretch of a list that goes on
pub stretch_kept : (xs ys : List ℕ) (start end : ℕ) → end ≤ length xs → take (length xs) ys ≡ xs
    → slice_range ys start end ≡ slice_range xs start end
stretch_kept xs ys start end p longer =
    between_is ys start end ∙ ap (drop start) (sym (take-take end (length xs) ys p) ∙ ap (take end) longer)
    ∙ sym (between_is xs start end)

-- what was written over a list counts only up to a cut
overwritten_cut : (w ys : List ℕ) (n : ℕ) → take n (w ++ drop (length w) ys) ≡ take n (w ++ drop (length w) (take n ys))
overwritten_cut [] ys n = sym (take-take n n ys (omega arith))
overwritten_cut (x ∷ w) ys zero = refl
overwritten_cut (x ∷ w) [] (suc n) = refl
overwritten_cut (x ∷ w) (y ∷ ys) (suc n) = ap (λ l. x ∷ l) (overwritten_cut w ys n)

-- what stands behind `end` once w was written there
module _ (xs w rest : List ℕ) (end : ℕ) (inside : end ≤ length xs) where
  abbrev tail : List ℕ
  tail = w ++ drop (length w) (drop end xs)

  abbrev pub written : List ℕ
  written = take (length xs) ((take end xs ++ tail) ++ rest)

  -- it lies behind what was there before, as far as the list goes
  written_is : written ≡ take end xs ++ take (length xs - end) tail
  written_is =
      let size : length xs ≡ end + (length xs - end) = omega arith in
      let prefix : length (take end xs) ≡ end = length-take-le end xs inside in
      let long : length xs ≤ length (take end xs ++ tail) = omega (
        arith,
        length-append (take end xs) tail,
        length-append w (drop (length w) (drop end xs)),
        length-drop (length w) (drop end xs),
        length-drop end xs,
      ) in
      take-append-le (length xs) (take end xs ++ tail) rest long
      ∙ ap (λ k. take k (take end xs ++ tail)) (size ∙ ap (λ k. k + (length xs - end)) (sym prefix))
      ∙ take-append-add (take end xs) tail (length xs - end)

  -- what lay before it stays
  pub stretch_before_written : (start : ℕ) → slice_range written start end ≡ slice_range xs start end
  stretch_before_written start =
      ap (λ l. slice_range l start end) written_is
      ∙ between_is (take end xs ++ take (length xs - end) tail) start end
      ∙ ap (drop start) (take_at (take end xs) (take (length xs - end) tail) end (length-take-le end xs inside))
      ∙ sym (between_is xs start end)

  -- and a stretch there is overwritten
  pub stretch_written : (n : ℕ) → end + n ≤ length xs → take n (drop end written) ≡ overwritten (take n (drop end xs)) w
  stretch_written n fits =
      let size : n ≡ length (take n (drop end xs)) =
      sym (length-take-le n (drop end xs) (omega (arith, length-drop end xs))) in
      ap (λ l. take n (drop end l)) written_is
      ∙ ap (take n) (drop_at (take end xs) (take (length xs - end) tail) end (length-take-le end xs inside))
      ∙ take-take n (length xs - end) tail (omega arith)
      ∙ overwritten_cut w (drop end xs) n
      ∙ ap (λ k. take k (w ++ drop (length w) (take n (drop end xs)))) size
