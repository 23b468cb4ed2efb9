-- What std's maps say of themselves, as what lists gather to and how it is written.
use Rattle.std.specs.Prelude.{◌≡◌, List, [], ◌∷◌, ◌++◌, map, Bool, true, false, cond, Option, Some, None, option_map}
use Rattle.std.specs.Prelude.{◌↔◌, refl}
use Rattle.std.proofs.lemmas.List.{map-append}
use Rattle.std.proofs.Common.{sym, ◌∙◌, ap, subst, inl, inr}
use Rattle.std.specs.Map.{keys_of, lookup}
use Rattle.std.specs.List.{IsDistinct}
use Rattle.speedy_layout.specs.Members.{IsIn, Ascends, IsLast, IsIn-key, IsIn-pair, IsLast-in, AreDistinct}
use Rattle.std.specs.List.Sorted.{IsStrictlySortedBy}
use Rattle.std.specs.declared.cmp.Ordering.{Ordering}
use Rattle.std.specs.Ordering.{eq_by_cmp}
use Rattle.std.specs.Cmp.{IsTotalOrder}
use Rattle.std.specs.BTreeMap as tree
use Rattle.std.specs.HashMap as hash
use Rattle.std.specs.BTreeMap.{BTreeMap}
use Rattle.std.specs.HashMap.{HashMap}
use Rattle.speedy_layout.specs.Equality.{TellsApart}
use Rattle.speedy_layout.specs.GathersTo.{HasLast, HasLast-behind, HasLastValues, IsTreeMapOf, IsHashMapOf}
use Rattle.speedy_layout.specs.SeenItems.{AreSeen, IsLess, less_is_asymmetric, cmp_tells_apart, item_seen}
use Rattle.speedy_layout.specs.SeenItems.{items_are_seen, differs, unique_seen, sorted_ascend}
use Rattle.speedy_layout.specs.Maps.{seen_pair, by_key, HasLasts, Ascends-distinct_keys, HasDistinctKeys, own_lasts}
use Rattle.speedy_layout.specs.Maps.{own_tree_map, GathersToTreeMap, GathersToHashMap, Ascends-by_key}

-- what is seen of pairs
abbrev pub seen_pairs : {K V A B : Type 0} → (K → A) → (V → B) → List (K × V) → List (A × B)
seen_pairs seen value es = map (seen_pair seen value) es

-- a pair with none of its key after it is the last
IsLast-at : {K V : Type 0} (e : K × V) (before after : List (K × V)) → (IsIn e.0 (keys_of after) → ⊥)
    → IsLast e (before ++ e ∷ after)
IsLast-at e [] after absent = inr (refl, absent)
IsLast-at e (f ∷ before) after absent = inl (IsLast-at e before after absent)

-- what is seen of an item is seen
pub IsIn-seen : {T A : Type 0} (seen : T → A) (x : T) (xs : List T) → IsIn x xs → IsIn (seen x) (map seen xs)
IsIn-seen seen x [] s = absurd s
IsIn-seen seen x (y ∷ ys) (inl e) = inl (ap seen e)
IsIn-seen seen x (y ∷ ys) (inr s) = inr (IsIn-seen seen x ys s)

unequal : {b : Bool} → (b ≡ true → ⊥) → b ≡ false
unequal {b = true} n = absurd (n refl)
unequal {b = false} n = refl

module _ {K V A B : Type 0} (seen : K → A) (value : V → B) where
  -- the keys of what is seen are what is seen of the keys
  pub keys_seen : (es : List (K × V)) → keys_of (seen_pairs seen value es) ≡ map seen (keys_of es)
  keys_seen [] = refl
  keys_seen (e ∷ es) = ap (λ ks. seen e.0 ∷ ks) (keys_seen es)

  -- each of them is what is seen of some key
  pub pairs_are_seen : (es : List (K × V)) → AreSeen seen (keys_of (seen_pairs seen value es))
  pairs_are_seen es = subst (λ ks. AreSeen seen ks) (sym (keys_seen es)) (items_are_seen seen (keys_of es))

  module _ {eq : K → K → Bool} (same_key : TellsApart eq seen) where
    -- keys of which no two are equal are distinct
    pub unique_keys_seen : (es : List (K × V)) → IsDistinct eq (keys_of es) → HasDistinctKeys (seen_pairs seen value es)
    unique_keys_seen es h = subst AreDistinct (sym (keys_seen es)) (unique_seen same_key (keys_of es) h)

    -- a look-up finds a value where the pair is seen
    pub lookup_seen : (q : K) (w : B) (es : List (K × V)) → HasDistinctKeys (seen_pairs seen value es)
        → (option_map value (lookup (eq q) es) ≡ Some w) ↔ IsIn {X = A × B} (seen q, w) (seen_pairs seen value es)
    lookup_seen q w [] d = (λ h. absurd (cc), λ h. absurd h)
    lookup_seen q w (e ∷ es) d = by (lookup_seen q w es d.1) (eq q e.0) refl where
      by : ((option_map value (lookup (eq q) es) ≡ Some w) ↔ IsIn {X = A × B} (seen q, w) (seen_pairs seen value es))
          → (b : Bool) → eq q e.0 ≡ b
          → (option_map value (cond b (Some e.1) (lookup (eq q) es)) ≡ Some w)
          ↔ IsIn {X = A × B} (seen q, w) (seen_pairs seen value (e ∷ es))
      by rest true is =
          let same = (same_key q e.0).0 is in (
            λ h. let v : value e.1 ≡ w = cc in inl (λ i. (same i, sym v i)),
            λ h.
                elim h [
                  | inl s ↦ ap (λ (p : A × B). Some p.1) (sym s)
                  | inr s ↦
                      absurd (d.0 (subst (λ a. IsIn a (keys_of (seen_pairs seen value es))) same
                      (IsIn-key (seen q, w) (seen_pairs seen value es) s)))
                ],
          )
      by rest false is = (
        λ h. inr (rest.0 h),
        λ h. elim h [ inl s ↦ absurd (differs same_key q e.0 is (ap (λ (p : A × B). p.0) s)) | inr s ↦ rest.1 s ],
      )

    -- the last value of a key is seen where the last pair with it is
    last_seen : (k : K) (v : V) (xs : List (K × V)) → HasLast eq xs k v
        → IsLast {K = A} {V = B} (seen k, value v) (seen_pairs seen value xs)
    last_seen k v xs h =
        let same = (same_key h.key k).0 h.equal in
        let pair : A × B = (seen h.key, value v) in
        let later = seen_pairs seen value h.at.after in
        let joined = map-append (seen_pair seen value) h.at.before ((h.key, v) ∷ h.at.after) in
        let whole : seen_pairs seen value xs ≡ seen_pairs seen value h.at.before ++ pair ∷ later
        = ap (seen_pairs seen value) h.at.whole_is ∙ joined in
        let absent : IsIn (seen h.key) (keys_of later) → ⊥ = λ s.
        let p = IsIn-pair (seen h.key) later s in
        let e = item_seen (seen_pair seen value) p.0 h.at.after p.2 in
        differs same_key e.0.0 k (h.no_later e.0 e.2) (ap (λ (q : A × B). q.0) (sym e.1) ∙ (sym p.1 ∙ same)) in
        subst (λ a. IsLast {K = A} {V = B} (a, value v) (seen_pairs seen value xs)) same
        (subst (IsLast pair) (sym whole) (IsLast-at pair (seen_pairs seen value h.at.before) later absent))

    -- and is the value of a pair of the list
    seen_last : (k : K) (w : B) (xs : List (K × V)) → IsLast {K = A} {V = B} (seen k, w) (seen_pairs seen value xs)
        → (v : V) × HasLast eq xs k v × (value v ≡ w)
    seen_last k w [] l = absurd l
    seen_last k w (x ∷ xs) (inl l) =
        let rest = seen_last k w xs l in
        (rest.0, HasLast-behind x rest.1, rest.2)
    seen_last k w (x ∷ xs) (inr l) = (
      x.1,
      record {
        key = x.0;
        at = record { before = []; after = xs; whole_is = refl };
        equal = (same_key x.0 k).1 (sym (ap (λ (p : A × B). p.0) l.0));
        no_later = λ e s.
            let there = IsIn-seen (seen_pair seen value) e xs s in
            let key = IsIn-key (seen_pair seen value e) (seen_pairs seen value xs) there in
            unequal (λ i. l.1 (subst (λ a. IsIn a (keys_of (seen_pairs seen value xs))) ((same_key e.0 k).0 i) key));
      },
      sym (ap (λ (p : A × B). p.1) l.0),
    )

    -- a map that has the last values of a list has, as it is seen, those of what is seen of the list
    values_seen : (xs : List (K × V)) (find : K → Option V) → HasLastValues eq xs find → (q : K) (w : B)
        → (option_map value (find q) ≡ Some w) ↔ IsLast {K = A} {V = B} (seen q, w) (seen_pairs seen value xs)
    values_seen xs find h q w = (
      by (find q) refl,
      λ l. let p = seen_last q w xs l in ap (option_map value) ((h q p.0).1 p.1) ∙ ap Some p.2,
    ) where
      by : (o : Option V) → find q ≡ o → option_map value o ≡ Some w
          → IsLast {K = A} {V = B} (seen q, w) (seen_pairs seen value xs)
      by None is e = absurd (cc)
      by (Some v) is e =
          let t : value v ≡ w = cc in
          subst (λ b. IsLast {K = A} {V = B} (seen q, b) (seen_pairs seen value xs)) t (last_seen q v xs ((h q v).0 is))

    -- entries that find the last values are the last pairs of their keys
    pub found_lasts : (xs es : List (K × V)) → HasDistinctKeys (seen_pairs seen value es)
        → HasLastValues eq xs (λ q. lookup (eq q) es)
        → HasLasts (seen_pairs seen value xs) (seen_pairs seen value es)
    found_lasts xs es d finds p = (
      λ h.
          let e = item_seen (seen_pair seen value) p es h in
          let q : A × B = (seen e.0.0, p.1) in
          let same : p ≡ q = ap (λ (r : A × B). let t : A × B = (r.0, p.1) in t) e.1 in
          subst (λ r. IsLast r (seen_pairs seen value xs)) (sym same)
          ((values_seen xs (λ q. lookup (eq q) es) finds e.0.0 p.1).0
          ((lookup_seen e.0.0 p.1 es d).1 (subst (λ r. IsIn r (seen_pairs seen value es)) same h))),
      λ l.
          let e = item_seen (seen_pair seen value) p xs (IsLast-in p (seen_pairs seen value xs) l) in
          let q : A × B = (seen e.0.0, p.1) in
          let same : p ≡ q = ap (λ (r : A × B). let t : A × B = (r.0, p.1) in t) e.1 in
          subst (λ r. IsIn r (seen_pairs seen value es)) (sym same)
          ((lookup_seen e.0.0 p.1 es d).0
          ((values_seen xs (λ q. lookup (eq q) es) finds e.0.0 p.1).1
          (subst (λ r. IsLast r (seen_pairs seen value xs)) same l))),
    )

-- ---- `HashMap`

module _ {K V A B H : Type 0} {seen : K → A} {eq : K → K → Bool} (value : V → B) (same_key : TellsApart eq seen) where
  -- the map of a list is what its pairs gather to
  pub hash_map_seen : (xs : List (K × V)) (m : HashMap K V H) → IsHashMapOf eq xs m
      → GathersToHashMap seen (seen_pairs seen value xs) (λ k. option_map value (hash.get eq m k))
  hash_map_seen xs m h = (pairs_are_seen seen value xs, values_seen seen value same_key xs (hash.get eq m) h.0)

  -- its entries in the order of iteration are a form of it
  pub hash_map_entries : (m : HashMap K V H) → hash.IsUnique eq m
      → GathersToHashMap seen (seen_pairs seen value m.entries) (λ k. option_map value (hash.get eq m k))
      × HasDistinctKeys (seen_pairs seen value m.entries)
  hash_map_entries m h =
      let d = unique_keys_seen seen value same_key m.entries h in
      let own = own_lasts (seen_pairs seen value m.entries) d in (
        (
          pairs_are_seen seen value m.entries,
          λ k w. (
            λ e. (own (seen k, w)).0 ((lookup_seen seen value same_key k w m.entries d).0 e),
            λ l. (lookup_seen seen value same_key k w m.entries d).1 ((own (seen k, w)).1 l),
          ),
        ),
        d,
      )

-- ---- `BTreeMap`

module _ {K V A B : Type 0} {seen : K → A} {cmp : K → K → Ordering} {eq : K → K → Bool} (value : V → B)
    (same_key : TellsApart eq seen) (total : IsTotalOrder cmp) (matches_eq : (x y : K)
    → eq x y ≡ eq_by_cmp cmp x y) where
  -- keys that ascend are seen to ascend
  pub sorted_pairs_ascend : (es : List (K × V)) → IsStrictlySortedBy cmp (keys_of es)
      → Ascends (by_key (IsLess seen cmp)) (seen_pairs seen value es)
  sorted_pairs_ascend es h =
      Ascends-by_key (IsLess seen cmp) (seen_pairs seen value es)
      (subst (λ ks. Ascends (IsLess seen cmp) ks) (sym (keys_seen seen value es))
      (sorted_ascend (cmp_tells_apart cmp same_key matches_eq) total (keys_of es) h))

  -- the map of a list is what its pairs gather to
  pub tree_map_seen : (xs : List (K × V)) (m : BTreeMap K V) → IsTreeMapOf cmp xs m
      → GathersToTreeMap (IsLess seen cmp) (seen_pairs seen value xs) (seen_pairs seen value m.entries)
  tree_map_seen xs m h =
      let ascends = sorted_pairs_ascend m.entries h.1 in (
        ascends,
        found_lasts seen value (cmp_tells_apart cmp same_key matches_eq) xs m.entries
            (Ascends-distinct_keys (less_is_asymmetric seen cmp) (seen_pairs seen value m.entries) ascends)
            h.0,
      )

  -- its entries in their order are its form
  pub tree_map_entries : (m : BTreeMap K V) → tree.IsOrdered cmp m
      → GathersToTreeMap (IsLess seen cmp) (seen_pairs seen value m.entries) (seen_pairs seen value m.entries)
      × Ascends (by_key (IsLess seen cmp)) (seen_pairs seen value m.entries)
  tree_map_entries m h =
      let ascends = sorted_pairs_ascend m.entries h in
      (own_tree_map (less_is_asymmetric seen cmp) (seen_pairs seen value m.entries) ascends, ascends)
