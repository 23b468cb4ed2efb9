-- What std's sets say of themselves, as what lists gather to and how it is written.
use Rattle.std.specs.Prelude.{◌≡◌, List, [], ◌∷◌, map, Bool, true, false, IsTrue, ◌||◌, ◌↔◌, refl}
use Rattle.std.proofs.Common.{sym, ◌∙◌, subst, inl, inr}
use Rattle.std.specs.declared.cmp.Ordering.{Ordering}
use Rattle.std.specs.Ordering.{eq_by_cmp}
use Rattle.std.specs.Cmp.{IsTotalOrder}
use Rattle.std.specs.Set.{is_member}
use Rattle.std.specs.BTreeSet as tree
use Rattle.std.specs.HashSet as hash
use Rattle.std.specs.BTreeSet.{BTreeSet}
use Rattle.std.specs.HashSet.{HashSet}
use Rattle.speedy_layout.specs.Members.{IsIn, AreDistinct, Ascends}
use Rattle.speedy_layout.specs.Equality.{TellsApart}
use Rattle.speedy_layout.specs.GathersTo.{IsTreeSetOf, IsHashSetOf}
use Rattle.speedy_layout.specs.SeenItems.{IsLess, cmp_tells_apart, item_seen, items_are_seen, differs, unique_seen}
use Rattle.speedy_layout.specs.SeenItems.{sorted_ascend}
use Rattle.speedy_layout.specs.Sets.{HasItems, GathersToTreeSet, GathersToHashSet, own_tree_set}

module _ {T A : Type 0} (seen : T → A) where
  module _ {eq : T → T → Bool} (same_key : TellsApart eq seen) where
    -- an item is found where it is seen
    pub member_seen : (q : T) (xs : List T) → IsTrue (is_member eq xs q) ↔ IsIn (seen q) (map seen xs)
    member_seen q [] = (λ h. absurd (cc), λ h. absurd h)
    member_seen q (x ∷ xs) = by (member_seen q xs) (eq q x) refl where
      by : IsTrue (is_member eq xs q) ↔ IsIn (seen q) (map seen xs) → (b : Bool) → eq q x ≡ b
          → IsTrue (b || is_member eq xs q) ↔ IsIn (seen q) (map seen (x ∷ xs))
      by rest true is = (λ h. inl ((same_key q x).0 is), λ h. refl)
      by rest false is =
          (λ h. inr (rest.0 h), λ h. elim h [ inl s ↦ absurd (differs same_key q x is s) | inr s ↦ rest.1 s ])

    -- items that are found where those of a list are found are the same items
    pub found_items : (xs ys : List T) → ((q : T) → is_member eq ys q ≡ is_member eq xs q)
        → HasItems (map seen xs) (map seen ys)
    found_items xs ys finds a = (
      λ h. let y = item_seen seen a ys h in
          subst (λ b. IsIn b (map seen xs)) (sym y.1) (there y.0 (subst (λ b. IsIn b (map seen ys)) y.1 h)),
      λ h. let x = item_seen seen a xs h in
          subst (λ b. IsIn b (map seen ys)) (sym x.1) (suffix x.0 (subst (λ b. IsIn b (map seen xs)) x.1 h)),
    ) where
      there : (q : T) → IsIn (seen q) (map seen ys) → IsIn (seen q) (map seen xs)
      there q h = (member_seen q xs).0 (sym (finds q) ∙ (member_seen q ys).1 h)

      suffix : (q : T) → IsIn (seen q) (map seen xs) → IsIn (seen q) (map seen ys)
      suffix q h = (member_seen q ys).0 (finds q ∙ (member_seen q xs).1 h)

-- ---- `HashSet`

module _ {T A H : Type 0} {seen : T → A} {eq : T → T → Bool} (same_key : TellsApart eq seen) where
  -- the set of a list is what its items gather to
  pub hash_set_seen : (xs : List T) (s : HashSet T H) → IsHashSetOf eq xs s
      → GathersToHashSet seen (map seen xs) (hash.contains eq s)
  hash_set_seen xs s h = (
    items_are_seen seen xs,
    λ x. (λ e. (member_seen seen same_key x xs).0 (sym (h.0 x) ∙ e), λ l. h.0 x ∙ (member_seen seen same_key x xs).1 l),
  )

  -- and its items in the order of iteration are a form of it
  pub hash_set_items : (s : HashSet T H) → hash.IsUnique eq s
      → GathersToHashSet seen (map seen s.keys) (hash.contains eq s) × AreDistinct (map seen s.keys)
  hash_set_items s h =
      ((items_are_seen seen s.keys, λ x. member_seen seen same_key x s.keys), unique_seen same_key s.keys h)

-- ---- `BTreeSet`

module _ {T A : Type 0} {seen : T → A} {cmp : T → T → Ordering}
    {eq : T → T → Bool} (same_key : TellsApart eq seen) (total : IsTotalOrder cmp)
    (matches_eq : (x y : T) → eq x y ≡ eq_by_cmp cmp x y) where
  -- its items in their order are its form
  pub tree_set_items : (s : BTreeSet T) → tree.IsOrdered cmp s
      → GathersToTreeSet (IsLess seen cmp) (map seen s.keys) (map seen s.keys)
      × Ascends (IsLess seen cmp) (map seen s.keys)
  tree_set_items s h = let ascends = sorted_ascend (cmp_tells_apart cmp same_key matches_eq) total s.keys h in
      (own_tree_set (IsLess seen cmp) (map seen s.keys) ascends, ascends)

  -- the set of a list is what its items gather to
  pub tree_set_seen : (xs : List T) (s : BTreeSet T) → IsTreeSetOf cmp xs s
      → GathersToTreeSet (IsLess seen cmp) (map seen xs) (map seen s.keys)
  tree_set_seen xs s h =
      let tells = cmp_tells_apart cmp same_key matches_eq in
      (sorted_ascend tells total s.keys h.1, found_items seen tells xs s.keys h.0)
