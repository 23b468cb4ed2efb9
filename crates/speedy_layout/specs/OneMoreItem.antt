-- One more item: when a list with it is still written, as what std's collections find says.
use Rattle.std.specs.Prelude.{◌≡◌, List, [], ◌∷◌, ◌++◌, length, ◌<◌, map, Bool, true, false, not, IsTrue, IsSome}
use Rattle.std.specs.Prelude.{is_some, Option, Some, ◌⊎◌, ◌↔◌, refl}
use Rattle.std.proofs.Common.{sym, ◌∙◌, ap, subst, inl, inr, arith}
use Rattle.std.proofs.lemmas.List.{map-append}
use Rattle.std.specs.List.{list_any}
use Rattle.std.specs.Map.{keys_of, lookup}
use Rattle.std.specs.declared.cmp.Ordering.{Ordering}
use Rattle.std.specs.declared.cmp.Ordering.TheVariants.{Less, Equal, Greater}
use Rattle.std.specs.Ordering.{eq_by_cmp, is_lt, is_le, ordering_reverse}
use Rattle.std.specs.Cmp.{IsTotalOrder}
use Rattle.std.specs.BTreeMap.Comparable.{le_lt_trans}
use Rattle.std.specs.BTreeMap as tree_map
use Rattle.std.specs.HashMap as hash_map
use Rattle.std.specs.BTreeSet as tree_set
use Rattle.std.specs.HashSet as hash_set
use Rattle.std.specs.BTreeMap.{BTreeMap}
use Rattle.std.specs.HashMap.{HashMap}
use Rattle.std.specs.BTreeSet.{BTreeSet}
use Rattle.std.specs.HashSet.{HashSet}
use Rattle.speedy_layout.specs.Members.{IsIn, AreDistinct, Ascends, IsIn-left, IsIn-right, IsIn-either, IsIn-key}
use Rattle.speedy_layout.specs.Members.{IsIn-pair}
use Rattle.speedy_layout.specs.GathersTo.{HasLastValues, IsTreeMapOf, IsHashMapOf, IsTreeSetOf, IsHashSetOf}
use Rattle.speedy_layout.specs.GathersToLemmas.{has_value, value_key}
use Rattle.speedy_layout.specs.Equality.{TellsApart}
use Rattle.speedy_layout.specs.SeenItems.{IsLess, less_is_seen, lt_is_less, item_seen}
use Rattle.speedy_layout.specs.Maps.{seen_pair, by_key, HasDistinctKeys}
use Rattle.speedy_layout.specs.StdMaps.{seen_pairs, IsIn-seen}
use Rattle.speedy_layout.specs.StdSets.{member_seen}

-- ---- lists that are written

module _ {X : Type 0} where
  -- an item of a list with one more at its end
  IsIn-last_or : (x y : X) (xs : List X) → IsIn y (xs ++ x ∷ []) → IsIn y xs ⊎ (y ≡ x)
  IsIn-last_or x y xs h = elim (IsIn-either y xs (x ∷ []) h) [
    | inl s ↦ inl s
    | inr s ↦ elim s [ inl e ↦ inr e | inr n ↦ absurd n ]
  ]

  pub AreDistinct-first : (xs ys : List X) → AreDistinct (xs ++ ys) → AreDistinct xs
  AreDistinct-first [] ys h = tt
  AreDistinct-first (x ∷ xs) ys h = (λ s. h.0 (IsIn-left x xs ys s), AreDistinct-first xs ys h.1)

  -- distinct items stay so with a new one after them
  pub AreDistinct-one_more : (xs : List X) (x : X) → AreDistinct xs → (IsIn x xs → ⊥) ↔ AreDistinct (xs ++ x ∷ [])
  AreDistinct-one_more [] x d = (λ h. (λ n. n, tt), λ h n. n)
  AreDistinct-one_more (y ∷ xs) x d =
      let rest = AreDistinct-one_more xs x d.1 in (
        λ h. (λ s. elim (IsIn-last_or x y xs s) [ inl t ↦ d.0 t | inr e ↦ h (inl (sym e)) ], rest.0 (λ t. h (inr t))),
        λ h s. elim s [ inl e ↦ h.0 (IsIn-right y xs (x ∷ []) (inl (sym e))) | inr t ↦ rest.1 h.1 t ],
      )

  pub Ascends-first : (less : X → X → Type 0) (xs ys : List X) → Ascends less (xs ++ ys) → Ascends less xs
  Ascends-first less [] ys h = tt
  Ascends-first less (x ∷ xs) ys h = (λ y s. h.0 y (IsIn-left y xs ys s), Ascends-first less xs ys h.1)

  -- items that ascend do so still with one after them that they are less than
  pub Ascends-one_more : (less : X → X → Type 0) (xs : List X) (x : X) → Ascends less xs
      → ((y : X) → IsIn y xs → less y x) ↔ Ascends less (xs ++ x ∷ [])
  Ascends-one_more less [] x a = (λ h. (λ y n. absurd n, tt), λ h y n. absurd n)
  Ascends-one_more less (y ∷ xs) x a =
      let rest = Ascends-one_more less xs x a.1 in (
        λ h. (
          λ z s. elim (IsIn-last_or x z xs s) [ inl t ↦ a.0 z t | inr e ↦ subst (less y) (sym e) (h y (inl refl)) ],
          rest.0 (λ z t. h z (inr t)),
        ),
        λ h z s. elim s [
          | inl e ↦ subst (λ w. less w x) (sym e) (h.0 x (IsIn-right x xs (x ∷ []) (inl refl)))
          | inr t ↦ rest.1 h.1 z t
        ],
      )

-- ---- keys that are found

module _ {K A : Type 0} {seen : K → A} {eq : K → K → Bool} (same_key : TellsApart eq seen) where
  module _ {V B : Type 0} (value : V → B) where
    -- a key has a value exactly where it is the key of a pair
    found_in : (xs : List (K × V)) (find : K → Option V) → HasLastValues eq xs find → (q : K)
        → IsSome (find q) ↔ IsIn (seen q) (keys_of (seen_pairs seen value xs))
    found_in xs find h q = (
      λ some.
          let e = value_key h q some in
          let there = IsIn-seen (seen_pair seen value) e.0 xs e.1 in
          subst (λ a. IsIn a (keys_of (seen_pairs seen value xs))) ((same_key e.0.0 q).0 e.2)
          (IsIn-key (seen_pair seen value e.0) (seen_pairs seen value xs) there),
      λ s.
          let p = IsIn-pair (seen q) (seen_pairs seen value xs) s in
          let e = item_seen (seen_pair seen value) p.0 xs p.2 in
          has_value h q e.0 e.2 ((same_key e.0.0 q).1 (sym (p.1 ∙ ap (λ (r : A × B). r.0) e.1))),
    )

-- what a test refuses does not hold
refused : {P : Type 0} (b : Bool) → IsTrue b ↔ P → IsTrue (not b) ↔ (P → ⊥)
refused true h = (λ e. absurd (cc), λ n. absurd (n (h.0 refl)))
refused false h = (λ e p. absurd (let t = h.1 p in (cc)), λ n. refl)

-- ---- lists of which something is seen

module _ {T A : Type 0} (seen : T → A) where
  -- the first ones of items that are written are written
  pub ascending_first : (less : A → A → Type 0) (items more : List T) → Ascends less (map seen (items ++ more))
      → Ascends less (map seen items)
  ascending_first less items more h =
      Ascends-first less (map seen items) (map seen more) (subst (Ascends less) (map-append seen items more) h)

  pub distinct_first : (items more : List T) → AreDistinct (map seen (items ++ more)) → AreDistinct (map seen items)
  distinct_first items more h =
      AreDistinct-first (map seen items) (map seen more) (subst AreDistinct (map-append seen items more) h)

pub HasDistinctKeys-first : {A B : Type 0} (ps qs : List (A × B)) → HasDistinctKeys (ps ++ qs) → HasDistinctKeys ps
HasDistinctKeys-first ps qs h =
    AreDistinct-first (keys_of ps) (keys_of qs) (subst AreDistinct (map-append (λ p. p.0) ps qs) h)

module _ {T A B : Type 0} (seen : T → A × B) where
  keys_append : (ps qs : List (A × B)) → keys_of (ps ++ qs) ≡ keys_of ps ++ keys_of qs
  keys_append ps qs = map-append (λ p. p.0) ps qs

  pub distinct_keys_first : (items more : List T) → HasDistinctKeys (map seen (items ++ more))
      → HasDistinctKeys (map seen items)
  distinct_keys_first items more h =
      AreDistinct-first (keys_of (map seen items)) (keys_of (map seen more))
      (subst AreDistinct (ap keys_of (map-append seen items more) ∙ keys_append (map seen items) (map seen more)) h)

-- ---- `HashMap` and `IndexMap`

module _ {K V A B : Type 0} {seen : K → A} {eq : K → K → Bool} (value : V → B) (same_key : TellsApart eq seen) where
  one_more_key : (items : List (K × V)) (e : K × V) → HasDistinctKeys (seen_pairs seen value items)
      → (IsIn (seen e.0) (keys_of (seen_pairs seen value items)) → ⊥)
      ↔ HasDistinctKeys (seen_pairs seen value (items ++ e ∷ []))
  one_more_key items e d =
      let last : seen_pairs seen value (e ∷ []) ≡ (seen e.0, value e.1) ∷ [] = refl in
      let keys : keys_of (seen_pairs seen value (items ++ e ∷ []))
      ≡ keys_of (seen_pairs seen value items) ++ seen e.0 ∷ []
      = ap keys_of (map-append (λ p. let q : A × B = (seen p.0, value p.1) in q) items (e ∷ []))
      ∙ map-append (λ p. p.0) (seen_pairs seen value items) (seen_pairs seen value (e ∷ [])) in
      let more = AreDistinct-one_more (keys_of (seen_pairs seen value items)) (seen e.0) d in
      (λ h. subst AreDistinct (sym keys) (more.0 h), λ h. more.1 (subst AreDistinct keys h))

  -- a key that a map has not is the one that may come next
  pub hash_map_accepts : {H : Type 0} (items : List (K × V)) (m : HashMap K V H) (e : K × V) {found : Bool}
      → found ≡ is_some (hash_map.get eq m e.0) → IsHashMapOf eq items m → HasDistinctKeys (seen_pairs seen value items)
      → IsTrue (not found) ↔ HasDistinctKeys (seen_pairs seen value (items ++ e ∷ []))
  hash_map_accepts items m e {found = found} is h d =
      let key = found_in same_key value items (hash_map.get eq m) h.0 e.0 in
      let there : IsTrue found ↔ IsIn (seen e.0) (keys_of (seen_pairs seen value items))
      = (λ t. key.0 (sym is ∙ t), λ s. is ∙ key.1 s) in
      let test = refused found there in
      let more = one_more_key items e d in
      (λ t. more.0 (test.0 t), λ w. test.1 (more.1 w))

-- ---- `HashSet` and `IndexSet`

-- an item that a set has not is the one that may come next
pub hash_set_accepts : {T A H : Type 0} {seen : T → A} {eq : T → T → Bool} → TellsApart eq seen
    → (items : List T) (s : HashSet T H) (x : T) {found : Bool} → found ≡ hash_set.contains eq s x
    → IsHashSetOf eq items s → AreDistinct (map seen items)
    → IsTrue (not found) ↔ AreDistinct (map seen (items ++ x ∷ []))
hash_set_accepts {seen = seen} {eq = eq} same_key items s x {found = found} is h d =
    let member = member_seen seen same_key x items in
    let there : IsTrue found ↔ IsIn (seen x) (map seen items) =
    (λ t. member.0 (sym (h.0 x) ∙ (sym is ∙ t)), λ i. is ∙ (h.0 x ∙ member.1 i)) in
    let test = refused found there in
    let more = AreDistinct-one_more (map seen items) (seen x) d in
    let last = map-append seen items (x ∷ []) in
    (λ t. subst AreDistinct (sym last) (more.0 (test.0 t)), λ w. test.1 (more.1 (subst AreDistinct last w)))

-- ---- what ascends

-- what is found is among some
found_some : {K V : Type 0} (test : K → Bool) (es : List (K × V)) → IsSome (lookup test es) → 0 < length es
found_some test [] h = absurd (cc)
found_some test (e ∷ es) h = omega arith

not_after : (r : Ordering) → is_lt r ≡ false → IsTrue (is_le (ordering_reverse r))
not_after Less h = absurd (cc)
not_after Equal h = refl
not_after Greater h = refl

module _ {K A : Type 0} {seen : K → A} {cmp : K → K → Ordering} (same_key : TellsApart (eq_by_cmp cmp) seen)
    (total : IsTotalOrder cmp) where
  -- what is not after the last key is less than what the last key is less than
  less_than_last : (x last next : K) → is_lt (cmp last x) ≡ false → IsTrue (is_lt (cmp last next))
      → IsLess seen cmp (seen x) (seen next)
  less_than_last x last next h t =
      (less_is_seen same_key total x next).0
      (ap is_lt
      (le_lt_trans total x last next (ap is_le (total.antisymm x last) ∙ not_after (cmp last x) h)
      (lt_is_less (cmp last next) t)))

-- ---- `BTreeMap`

module _ {K V A B : Type 0} {seen : K → A} {cmp : K → K → Ordering} (value : V → B)
    (same_key : TellsApart (eq_by_cmp cmp) seen) (total : IsTotalOrder cmp) where
  found_key : (items : List (K × V)) (m : BTreeMap K V) → IsTreeMapOf cmp items m → (q : K)
      → IsSome (tree_map.get cmp m q) ↔ IsIn (seen q) (keys_of (seen_pairs seen value items))
  found_key items m h q = found_in same_key value items (tree_map.get cmp m) h.0 q

  one_more_pair : (items : List (K × V)) (e : K × V) → Ascends (by_key (IsLess seen cmp)) (seen_pairs seen value items)
      → ((p : A × B) → IsIn p (seen_pairs seen value items) → IsLess seen cmp p.0 (seen e.0))
      ↔ Ascends (by_key (IsLess seen cmp)) (seen_pairs seen value (items ++ e ∷ []))
  one_more_pair items e a =
      let more = Ascends-one_more (by_key (IsLess seen cmp)) (seen_pairs seen value items) (seen e.0, value e.1) a in
      let last : seen_pairs seen value (items ++ e ∷ []) ≡ seen_pairs seen value items ++ (seen e.0, value e.1) ∷ [] =
      map-append (seen_pair seen value) items (e ∷ []) in (
        λ h. subst (Ascends (by_key (IsLess seen cmp))) (sym last) (more.0 h),
        λ h. more.1 (subst (Ascends (by_key (IsLess seen cmp))) last h),
      )

  -- a key that the last one of a map is less than is the one that may come next
  pub tree_map_accepts : (items : List (K × V)) (m : BTreeMap K V) (e : K × V) (last : K) {w : V} {less : Bool}
      → less ≡ is_lt (cmp last e.0) → tree_map.get cmp m last ≡ Some w → tree_map.IsUpperBound cmp m last
      → IsTreeMapOf cmp items m → Ascends (by_key (IsLess seen cmp)) (seen_pairs seen value items)
      → IsTrue less ↔ Ascends (by_key (IsLess seen cmp)) (seen_pairs seen value (items ++ e ∷ []))
  tree_map_accepts items m e last is there greatest h a =
      let more = one_more_pair items e a in (
        λ t.
            more.0
            (λ p s.
            let x = item_seen (seen_pair seen value) p items s in
            let key : IsIn (seen x.0.0) (keys_of (seen_pairs seen value items)) =
            subst (λ k. IsIn k (keys_of (seen_pairs seen value items))) (ap (λ (q : A × B). q.0) x.1)
            (IsIn-key p (seen_pairs seen value items) s) in
            subst (λ k. IsLess seen cmp k (seen e.0)) (ap (λ (q : A × B). q.0) (sym x.1))
            (less_than_last same_key total x.0.0 last e.0 (greatest x.0.0 ((found_key items m h x.0.0).1 key))
            (sym is ∙ t))),
        λ w.
            let p =
            IsIn-pair (seen last) (seen_pairs seen value items) ((found_key items m h last).0 (ap is_some there)) in
            is ∙ (less_is_seen same_key total last e.0).1
            (subst (λ k. IsLess seen cmp k (seen e.0)) (sym p.1) (more.1 w p.0 p.2)),
      )

  -- and any key where it has none
  pub tree_map_accepts_first : (items : List (K × V)) (m : BTreeMap K V) (e : K × V)
      → (0 < tree_map.btree_map_len m → ⊥)
      → IsTreeMapOf cmp items m → Ascends (by_key (IsLess seen cmp)) (seen_pairs seen value items)
      → Ascends (by_key (IsLess seen cmp)) (seen_pairs seen value (items ++ e ∷ []))
  tree_map_accepts_first items m e empty h a =
      (one_more_pair items e a).0
      (λ p s.
      let x = item_seen (seen_pair seen value) p items s in
      let key : IsIn (seen x.0.0) (keys_of (seen_pairs seen value items)) =
      subst (λ k. IsIn k (keys_of (seen_pairs seen value items))) (ap (λ (q : A × B). q.0) x.1)
      (IsIn-key p (seen_pairs seen value items) s) in
      absurd (empty (found_some (eq_by_cmp cmp x.0.0) m.entries ((found_key items m h x.0.0).1 key))))

-- ---- `BTreeSet`

-- what passes a test is among some
found_any : {T : Type 0} (test : T → Bool) (xs : List T) → IsTrue (list_any test xs) → 0 < length xs
found_any test [] h = absurd (cc)
found_any test (x ∷ xs) h = omega arith

module _ {T A : Type 0} {seen : T → A} {cmp : T → T → Ordering} (same_key : TellsApart (eq_by_cmp cmp) seen)
    (total : IsTotalOrder cmp) where
  found_item : (items : List T) (s : BTreeSet T) → IsTreeSetOf cmp items s → (q : T)
      → IsTrue (tree_set.contains cmp s q) ↔ IsIn (seen q) (map seen items)
  found_item items s h q =
      let member = member_seen seen same_key q items in
      (λ t. member.0 (sym (h.0 q) ∙ t), λ i. h.0 q ∙ member.1 i)

  one_more_item : (items : List T) (x : T) → Ascends (IsLess seen cmp) (map seen items)
      → ((a : A) → IsIn a (map seen items) → IsLess seen cmp a (seen x))
      ↔ Ascends (IsLess seen cmp) (map seen (items ++ x ∷ []))
  one_more_item items x a =
      let more = Ascends-one_more (IsLess seen cmp) (map seen items) (seen x) a in
      let last = map-append seen items (x ∷ []) in (
        λ h. subst (Ascends (IsLess seen cmp)) (sym last) (more.0 h),
        λ h. more.1 (subst (Ascends (IsLess seen cmp)) last h),
      )

  -- an item that the last one of a set is less than is the one that may come next
  pub tree_set_accepts : (items : List T) (s : BTreeSet T) (x last : T) {less : Bool} → less ≡ is_lt (cmp last x)
      → IsTrue (tree_set.contains cmp s last) → tree_set.IsUpperBound cmp s last
      → IsTreeSetOf cmp items s → Ascends (IsLess seen cmp) (map seen items)
      → IsTrue less ↔ Ascends (IsLess seen cmp) (map seen (items ++ x ∷ []))
  tree_set_accepts items s x last is there greatest h a =
      let more = one_more_item items x a in (
        λ t.
            more.0
            (λ b i.
            let y = item_seen seen b items i in
            let key : IsIn (seen y.0) (map seen items) = subst (λ k. IsIn k (map seen items)) y.1 i in
            subst (λ k. IsLess seen cmp k (seen x)) (sym y.1)
            (less_than_last same_key total y.0 last x (greatest y.0 ((found_item items s h y.0).1 key)) (sym is ∙ t))),
        λ w. is ∙ (less_is_seen same_key total last x).1 (more.1 w (seen last) ((found_item items s h last).0 there)),
      )

  -- and any item where it has none
  pub tree_set_accepts_first : (items : List T) (s : BTreeSet T) (x : T) → (0 < tree_set.btree_set_len s → ⊥)
      → IsTreeSetOf cmp items s → Ascends (IsLess seen cmp) (map seen items)
      → Ascends (IsLess seen cmp) (map seen (items ++ x ∷ []))
  tree_set_accepts_first items s x empty h a =
      (one_more_item items x a).0
      (λ b i.
      let y = item_seen seen b items i in
      let key : IsIn (seen y.0) (map seen items) = subst (λ k. IsIn k (map seen items)) y.1 i in
      absurd (empty (found_any (eq_by_cmp cmp y.0) s.keys ((found_item items s h y.0).1 key))))
