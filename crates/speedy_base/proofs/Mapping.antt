-- A list that is mapped in place, item by item.
use Rattle.std.proofs.Common.{◌≡◌, ℕ, zero, suc, ◌+◌, ◌<◌, ◌≤◌, List, [], ◌∷◌, ◌++◌, length, map, take, drop, get_or}
use Rattle.std.proofs.Common.{set, refl, ap, ap₂, ◌∙◌, arith}

module _ {A : Type 0} (f : A → A) where
  -- what is passed is mapped, and the rest stays as it was
  abbrev pub passed : ℕ → List A → List A
  passed i xs = map f (take i xs) ++ drop i xs

  -- one more item is mapped
  one_more : (i : ℕ) (xs : List A) (d : A) → i < length xs
      → set (passed i xs) i (f (get_or (passed i xs) i d)) ≡ passed (suc i) xs
  one_more i [] d l = absurd (omega arith)
  one_more zero (x ∷ xs) d l = refl
  one_more (suc i) (x ∷ xs) d l = ap (λ ys. f x ∷ ys) (one_more i xs d (omega arith))

  pub passed_more : (i : ℕ) (xs ys : List A) (d y : A) → i < length xs → ys ≡ passed i xs → y ≡ f (get_or ys i d)
      → set ys i y ≡ passed (i + 1) xs
  passed_more i xs ys d y l same is =
      let next : suc i ≡ i + 1 = omega arith in
      ap (set ys i) is
      ∙ (ap (λ zs. set zs i (f (get_or zs i d))) same ∙ (one_more i xs d l ∙ ap (λ n. passed n xs) next))

  -- all of them are
  pub passed_all : (i : ℕ) (xs : List A) → length xs ≤ i → passed i xs ≡ map f xs
  passed_all zero [] l = refl
  passed_all (suc i) [] l = refl
  passed_all zero (x ∷ xs) l = absurd (omega arith)
  passed_all (suc i) (x ∷ xs) l = ap (λ ys. f x ∷ ys) (passed_all i xs (omega arith))

-- what leaves each item as it is leaves the list as it is
pub map_same : {A : Type 0} (f : A → A) (xs : List A) → ((x : A) → f x ≡ x) → map f xs ≡ xs
map_same f [] h = refl
map_same f (x ∷ xs) h = ap₂ ◌∷◌ (h x) (map_same f xs h)
