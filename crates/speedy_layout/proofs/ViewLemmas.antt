-- The items of views in the words of the code that walks them.
use Rattle.std.specs.Prelude.{◌≡◌, ℕ, zero, suc, ◌+◌, ◌-◌, ◌*◌, ◌/◌, ◌%◌, ◌<◌, ◌≤◌, List, [], ◌∷◌, length, take, drop}
use Rattle.std.specs.Prelude.{get_or}
use Rattle.std.proofs.Common.{sym, ◌∙◌, ap, ap₂, subst, arith}
use Rattle.std.proofs.Math.Nat.{mul-add-div, div-eq_of_lt}
use Rattle.std.proofs.lemmas.List.{drop-drop, length-drop}
use Rattle.std.proofs.lemmas.Nat.{div-add-mod'}
use Rattle.speedy_layout.specs.Views.{decode_each, shown_items, length-shown_items}

module _ {A : Type 0} (decoded : List ℕ → A) (size : ℕ) where
  at-decode_each : (n i : ℕ) (bytes : List ℕ) (x : A) → i < n
      → get_or (decode_each decoded size n bytes) i x ≡ decoded (take size (drop (i * size) bytes))
  at-decode_each zero i bytes x l = absurd (omega arith)
  at-decode_each (suc n) zero bytes x l =
      ap (λ k. decoded (take size (drop k bytes))) (let none : 0 ≡ 0 * size = omega arith in none)
  at-decode_each (suc n) (suc i) bytes x l =
      let more : size + i * size ≡ suc i * size = omega arith in
      at-decode_each n i (drop size bytes) x (omega arith)
      ∙ ap (λ b. decoded (take size b)) (drop-drop (i * size) size bytes ∙ ap (λ k. drop k bytes) more)

  -- the item at an index
  pub at-shown_items : (bytes : List ℕ) (i : ℕ) (x : A) → i < length (shown_items decoded size bytes)
      → get_or (shown_items decoded size bytes) i x ≡ decoded (take size (drop (i * size) bytes))
  unfolding shown_items
  at-shown_items bytes i x l =
      at-decode_each (length bytes / size) i bytes x (subst (λ n. i < n) (length-shown_items decoded size bytes) l)

  -- too few bytes for an item show none
  pub shown_items-none : (bytes : List ℕ) → length bytes < size → shown_items decoded size bytes ≡ []
  unfolding shown_items
  shown_items-none bytes l = ap (λ n. decode_each decoded size n bytes) (div-eq_of_lt l)

  -- the first item, and those after it
  pub shown_items-more : (bytes : List ℕ) → 0 < size → size ≤ length bytes
      → shown_items decoded size bytes ≡ decoded (take size bytes) ∷ shown_items decoded size (drop size bytes)
  unfolding shown_items
  shown_items-more bytes some l =
      let left = length-drop size bytes in
      let whole : length bytes ≡ size * 1 + length (drop size bytes) = omega arith in
      let one_more : length bytes / size ≡ suc (length (drop size bytes) / size) =
      ap (λ n. n / size) whole ∙ (mul-add-div some 1 (length (drop size bytes)) ∙ (omega arith)) in
      ap (λ n. decode_each decoded size n bytes) one_more

  -- the same in the words of the code
  pub item_found : (bytes : List ℕ) (i n : ℕ) (x : A) → n ≡ size → i < length bytes / n
      → x ≡ decoded (take (i * n + n - i * n) (drop (i * n) bytes)) → let items = shown_items decoded size bytes in
      (i < length items) × (x ≡ get_or items i x)
  item_found bytes i n x same within is =
      let many = length-shown_items decoded size bytes in
      let here : i < length (shown_items decoded size bytes) =
      rw many (subst (λ k. i < length bytes / k) same within) in
      let one : i * n + n - i * n ≡ n = omega arith in (
        here,
        is ∙ ap (λ k. decoded (take k (drop (i * n) bytes))) one ∙ ap (λ k. decoded (take k (drop (i * k) bytes))) same
            ∙ sym (at-shown_items bytes i x here),
      )

  pub item_missing : (bytes : List ℕ) (i n : ℕ) → n ≡ size → length bytes / n ≤ i
      → length (shown_items decoded size bytes) ≤ i
  item_missing bytes i n same past =
      rw (length-shown_items decoded size bytes) (subst (λ k. length bytes / k ≤ i) same past)

  pub item_taken : (bytes first rest : List ℕ) (n : ℕ) (x : A) → n ≡ size → 0 < size → n ≤ length bytes
      → first ≡ take n bytes
      → rest ≡ drop n bytes → x ≡ decoded first → shown_items decoded size bytes ≡ x ∷ shown_items decoded size rest
  item_taken bytes first rest n x same some enough prefix suffix is =
      shown_items-more bytes some (subst (λ k. k ≤ length bytes) same enough)
      ∙ ap₂ (λ y ys. y ∷ ys) (ap (λ k. decoded (take k bytes)) (sym same) ∙ (ap decoded (sym prefix) ∙ sym is))
      (ap (λ k. shown_items decoded size (drop k bytes)) (sym same) ∙ ap (shown_items decoded size) (sym suffix))

-- a whole number of items
pub whole_items : (size whole : ℕ) → whole % size ≡ 0 → whole ≡ whole / size * size
whole_items size whole h = let parts = div-add-mod' whole size in omega arith
