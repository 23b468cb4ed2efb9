-- Sets: the counted lists of items that gather to them. An item may be repeated.
use Rattle.std.specs.Prelude.{◌≡◌, ℕ, List, [], ◌∷◌, Bool, true, false, IsTrue, ◌↔◌, refl}
use Rattle.std.proofs.Common.{sym, ◌∙◌, subst, inl, inr}
use Rattle.std.specs.declared.cmp.Ordering.{Ordering}
use Rattle.speedy_base.specs.Mode.{Mode}
use Rattle.speedy_layout.specs.Format.{Format, Each}
use Rattle.speedy_layout.specs.Laws.{Laws, Codec}
use Rattle.speedy_layout.specs.Numbers.{unsigned_number}
use Rattle.speedy_layout.specs.Prefixed.{Numbers, Behind, unsigned_numbers, prefixed_codec}
use Rattle.speedy_layout.specs.Members.{IsIn, AreDistinct, Ascends, InFirstOrder}
use Rattle.speedy_layout.specs.Orders.{IsAsymmetric, Ascends-distinct, same_ascending, own_first_order}
use Rattle.speedy_layout.specs.Orders.{same_first_order}
use Rattle.speedy_layout.specs.Gathering.{IsGathering, HasForms, gathered, gathered_behind, in_decided}
use Rattle.speedy_layout.specs.SeenItems.{AreSeen, IsLess, less_is_asymmetric}

-- the two lists have the same items
abbrev pub HasItems : {T : Type 0} → List T → List T → Type 0
HasItems {T = T} items xs = (x : T) → IsIn x xs ↔ IsIn x items

-- A set whose items ascend: it holds just the items of the list.
abbrev pub GathersToTreeSet : {T : Type 0} → (T → T → Type 0) → List T → List T → Type 0
GathersToTreeSet less items xs = Ascends less xs × HasItems items xs

-- A set that tells whether it holds an item: it holds just the items of the list.
abbrev pub GathersToHashSet : {T A : Type 0} → (T → A) → List A → (T → Bool) → Type 0
GathersToHashSet {T = T} seen items holds = AreSeen seen items × ((x : T) → IsTrue (holds x) ↔ IsIn (seen x) items)

-- A set whose items stand in the order of their first occurrences: it holds just the items of the list.
abbrev pub GathersToIndexSet : {T : Type 0} → List T → List T → Type 0
GathersToIndexSet items xs = AreDistinct xs × HasItems items xs × InFirstOrder items xs

-- A set whose items ascend is written in their order.
abbrev pub tree_set : {T : Type 0} → Mode → (T → T → Type 0) → Format T → Format (List T)
tree_set mode less L = gathered false mode (unsigned_number 4 mode) (GathersToTreeSet less) (Ascends less) L

-- One that tells whether it holds an item is written in any order, with each item once.
abbrev pub hash_set : {T A : Type 0} → Mode → (T → A) → Format A → Format (T → Bool)
hash_set mode seen L = gathered true mode (unsigned_number 4 mode) (GathersToHashSet seen) AreDistinct L

-- One whose items stand in the order of their first occurrences is written in that order, which is told by each item
-- standing once.
abbrev pub index_set : {T : Type 0} → Mode → Format T → Format (List T)
index_set mode L = gathered false mode (unsigned_number 4 mode) GathersToIndexSet AreDistinct L

-- ---- their laws

own_items : {T : Type 0} (xs : List T) → HasItems xs xs
own_items xs = λ x. (λ h. h, λ h. h)

module _ {T : Type 0} where
  -- sets of one list have the same items
  HasItems-inside : (items xs ys : List T) → HasItems items xs → HasItems items ys → (x : T) → IsIn x xs → IsIn x ys
  HasItems-inside items xs ys h k x s = (k x).1 ((h x).0 s)

  -- items that ascend stand for themselves
  pub own_tree_set : (less : T → T → Type 0) (xs : List T) → Ascends less xs → GathersToTreeSet less xs xs
  own_tree_set less xs h = (h, own_items xs)

  pub tree_set_is : {less : T → T → Type 0} → IsAsymmetric less
      → IsGathering false (GathersToTreeSet less) (Ascends less)
  tree_set_is {less = less} order = record {
    one_thing = one_set;
    form_distinct = Ascends-distinct order;
    form_inside = λ items others xs d h k x s. (k.1 x).0 ((h.1 x).1 s);
    one_form = λ _ items others xs d e h k.
        one_set items items xs (own_tree_set less items d) h ∙ one_set others xs others k (own_tree_set less others e);
    one_hashed = λ e. absurd (cc);
  } where
    one_set : (items xs ys : List T) → GathersToTreeSet less items xs → GathersToTreeSet less items ys → xs ≡ ys
    one_set items xs ys h k =
        same_ascending order xs ys h.0 k.0 (HasItems-inside items xs ys h.1 k.1) (HasItems-inside items ys xs k.1 h.1)

  -- distinct items stand for themselves
  pub own_index_set : (xs : List T) → AreDistinct xs → GathersToIndexSet xs xs
  own_index_set xs d = (d, own_items xs, own_first_order xs)

  pub index_set_is : IsGathering false (GathersToIndexSet {T = T}) AreDistinct
  index_set_is = record {
    one_thing = one_set;
    form_distinct = λ items d. d;
    form_inside = λ items others xs d h k x s. (k.1 x).0 ((h.1 x).1 s);
    one_form = λ _ items others xs d e h k.
        one_set items items xs (own_index_set items d) h ∙ one_set others xs others k (own_index_set others e);
    one_hashed = λ e. absurd (cc);
  } where
    one_set : (items xs ys : List T) → GathersToIndexSet items xs → GathersToIndexSet items ys → xs ≡ ys
    one_set items xs ys h k = same_first_order items xs ys h.0 k.0 (HasItems-inside items xs ys h.1 k.1)
        (HasItems-inside items ys xs k.1 h.1) h.2 k.2

-- tests that hold of the same are the same
same_test : (a b : Bool) → (IsTrue a ↔ IsTrue b) → a ≡ b
same_test true b h = sym (h.0 refl)
same_test false true h = h.1 refl
same_test false false h = refl

-- the items of a list with an encoding, each once
once : {A : Type 0} {strict : Bool} {n : ℕ} {L : Format A} → Laws strict n L → (xs : List A) (bytes : List ℕ)
    → Each L.encodes xs bytes
    → (kept : List A) × AreDistinct kept × HasItems xs kept
once laws [] bytes h = ([], tt, λ x. (λ h. h, λ h. h))
once laws (a ∷ xs) bytes h =
    let rest = once laws xs h.suffix h.second_is in
    elim (in_decided laws a xs h.prefix h.suffix h.first_is h.second_is) [
      | inl again ↦ (
        rest.0,
        rest.1,
        λ y. (
          λ s. inr ((rest.2 y).0 s),
          λ s. elim s [ inl e ↦ (rest.2 y).1 (subst (λ z. IsIn z xs) (sym e) again) | inr k ↦ (rest.2 y).1 k ],
        ),
      )
      | inr absent ↦ (
        a ∷ rest.0,
        (λ s. absent ((rest.2 a).0 s), rest.1),
        λ y. (
          λ s. elim s [ inl e ↦ inl e | inr k ↦ inr ((rest.2 y).0 k) ],
          λ s. elim s [ inl e ↦ inl e | inr k ↦ inr ((rest.2 y).1 k) ],
        ),
      )
    ]

module _ {T A : Type 0} {seen : T → A} where
  pub hash_set_is : IsGathering true (GathersToHashSet seen) AreDistinct
  hash_set_is = record {
    one_thing =
        λ items f g h k. λ i x. same_test (f x) (g x) (λ s. (k.1 x).1 ((h.1 x).0 s), λ s. (h.1 x).1 ((k.1 x).0 s)) i;
    form_distinct = λ items d. d;
    form_inside = λ items others f d h k a s. let x = h.0 a s in
        subst (λ b. IsIn b others) x.1 ((k.1 x.0).0 ((h.1 x.0).1 (subst (λ b. IsIn b items) (sym x.1) s)));
    one_form = λ e. absurd (cc);
    one_hashed = λ _ xs ys f g d e h k there suffix. λ i x. same_test (f x) (g x)
        (λ s. (k.1 x).1 (there (seen x) ((h.1 x).0 s)), λ s. (h.1 x).1 (suffix (seen x) ((k.1 x).0 s))) i;
  }

  pub hash_set_forms : {strict : Bool} {n : ℕ} {L : Format A} → Laws strict n L
      → HasForms L (GathersToHashSet seen) AreDistinct
  hash_set_forms laws items bytes f encoded h =
      let kept = once laws items bytes encoded in (
        kept.0,
        (
          λ a s. h.0 a ((kept.2 a).0 s),
          λ x. (λ s. (kept.2 (seen x)).1 ((h.1 x).0 s), λ s. (h.1 x).1 ((kept.2 (seen x)).0 s)),
        ),
        kept.1,
      )

-- Behind the number of items. Ascending ones are seen so, and compared so.
abbrev pub tree_set_behind : {T A : Type 0} → (T → A) → (T → T → Ordering) → Codec A
    → (numbers : Numbers) → Behind numbers (List A)
tree_set_behind seen cmp item =
    gathered_behind false (tree_set_is (less_is_asymmetric seen cmp)) item
    (λ f items bytes xs encoded h. (xs, own_tree_set (IsLess seen cmp) xs h.0, h.0))

abbrev pub hash_set_behind : {T A : Type 0} → (T → A) → Codec A → (numbers : Numbers) → Behind numbers (T → Bool)
hash_set_behind seen item = gathered_behind true (hash_set_is {seen = seen}) item (λ f. hash_set_forms (item.laws f))

abbrev pub index_set_behind : {A : Type 0} → Codec A → (numbers : Numbers) → Behind numbers (List A)
index_set_behind item =
    gathered_behind false index_set_is item (λ f items bytes xs encoded h. (xs, own_index_set xs h.0, h.0))

-- and by themselves behind that number in four bytes
abbrev pub tree_set_codec : {T A : Type 0} → (T → A) → (T → T → Ordering) → Codec A → Codec (List A)
tree_set_codec seen cmp item = prefixed_codec (tree_set_behind seen cmp item (unsigned_numbers 4))

abbrev pub hash_set_codec : {T A : Type 0} → (T → A) → Codec A → Codec (T → Bool)
hash_set_codec seen item = prefixed_codec (hash_set_behind seen item (unsigned_numbers 4))

abbrev pub index_set_codec : {A : Type 0} → Codec A → Codec (List A)
index_set_codec item = prefixed_codec (index_set_behind item (unsigned_numbers 4))
