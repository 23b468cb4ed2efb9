-- The items of several arrays are written as these are, one after the other.
use Rattle.std.specs.Prelude.{◌≡◌, ℕ, suc, List, [], ◌∷◌, length, map, flat_map, All, Result, refl}
use Rattle.std.proofs.Common.{sym, ◌∙◌, subst, arith}
use Rattle.std.proofs.lemmas.List.{length-map, map-append}
use Rattle.speedy_base.specs.declared.error.Error.{Error}
use Rattle.speedy_base.specs.Mode.{Mode}
use Rattle.speedy_layout.specs.Format.{Format, Each}
use Rattle.speedy_layout.specs.Lists.{repeat, vector}
use Rattle.speedy_layout.specs.Owned.{owned_content}
use Rattle.speedy_layout.specs.Sequences.{Parts-as}
use Rattle.speedy_write.specs.Sequences.{Writes-as}
use Rattle.speedy_write.specs.Writing.{WriterState, WritesEach}
use Rattle.speedy_write.proofs.ListLemmas.{Each-append, Each-parts}

module _ {A V : Type 0} (R : V → List ℕ → Type 0) (seen : A → V) (n : ℕ) where
  -- the bytes are those of n items
  abbrev OfItems : List V → List ℕ → Type 0
  OfItems vs b = (length vs ≡ n) × Each R vs b

  -- what encodes all items together encodes each array
  arrays_of : (arrays : List (List A)) → All (λ array. length array ≡ n) arrays → (b : List ℕ)
      → Each R (map seen (flat_map (λ x. x) arrays)) b → Each OfItems (map (map seen) arrays) b
  arrays_of [] whole b h = h
  arrays_of (x ∷ xs) whole b h =
      Parts-as (λ s k. (length-map x seen ∙ whole 0 [] (omega arith), k))
      (arrays_of xs (λ k d l. whole (suc k) d (omega (arith, l))))
      (Each-parts R (map seen x) (map seen (flat_map (λ y. y) xs)) b
      (subst (λ (vs : List V). Each R vs b) (map-append seen x (flat_map (λ y. y) xs)) h))

  -- and the other way round
  items_of : (arrays : List (List A)) (b : List ℕ) → Each OfItems (map (map seen) arrays) b
      → Each R (map seen (flat_map (λ x. x) arrays)) b
  items_of [] b h = h
  items_of (x ∷ xs) b h =
      subst (λ (vs : List V). Each R vs b) (sym (map-append seen x (flat_map (λ y. y) xs)))
      (Each-append R (map seen x) (map seen (flat_map (λ y. y) xs)) b (Parts-as (λ s k. k.1) (items_of xs) h))

module _ {E : Type 0} (gives : Error → E → Type 0) {A V : Type 0} (F : Mode → Format V) (seen : A → V) {n : ℕ}
    (arrays : List (List A))
    (old new : WriterState) (appended : List ℕ → Type 0) where
  arrays_written : (result : Result (Unit {0}) E) → All (λ array. length array ≡ n) arrays
      → WritesEach gives F seen (flat_map (λ x. x) arrays) result old new appended
      → WritesEach gives (λ mode. vector n (F mode)) (map seen) arrays result old new appended
  unfolding vector owned_content repeat
  arrays_written result whole w =
      let writes = (F old.mode).writes in
      let encodes = (F old.mode).encodes in
      let all = length-map (flat_map (λ x. x) arrays) seen in
      Writes-as (λ _ k. k) (λ b h. (length-map arrays (map seen), arrays_of writes seen n arrays whole b h.1))
      (λ b h. (b, (all, items_of writes seen n arrays b h.1), refl))
      (λ b h. (b, (all, items_of encodes seen n arrays b h.1))) w

  -- where the items were written one after another, so were the arrays
  pub items_written : (result : Result (Unit {0}) E) (items : List A)
      → All (λ array. length array ≡ n) arrays → items ≡ flat_map (λ x. x) arrays
      → WritesEach gives F seen items result old new appended
      → WritesEach gives (λ mode. vector n (F mode)) (map seen) arrays result old new appended
  items_written result items whole same h =
      arrays_written result whole (subst (λ xs. WritesEach gives F seen xs result old new appended) same h)
