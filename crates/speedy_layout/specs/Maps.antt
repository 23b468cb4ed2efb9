-- Maps: the counted lists of pairs that gather to them. Of a key that is repeated the last value stands.
use Rattle.std.specs.Prelude.{◌≡◌, ℕ, List, [], ◌∷◌, Bool, true, false, Option, Some, None, ◌↔◌, refl}
use Rattle.std.specs.Map.{keys_of}
use Rattle.std.specs.declared.cmp.Ordering.{Ordering}
use Rattle.std.proofs.Common.{sym, ◌∙◌, ap, subst, inl, inr}
use Rattle.speedy_base.specs.Mode.{Mode}
use Rattle.speedy_layout.specs.Format.{Format, Each}
use Rattle.speedy_layout.specs.Laws.{Laws, Codec, Decided}
use Rattle.speedy_layout.specs.Numbers.{unsigned_number}
use Rattle.speedy_layout.specs.Prefixed.{Numbers, Behind, unsigned_numbers, prefixed_codec}
use Rattle.speedy_layout.specs.Sequences.{sequence}
use Rattle.speedy_layout.specs.Tuples.{pair, pair_codec}
use Rattle.speedy_layout.specs.Members.{IsIn, AreDistinct, Ascends, IsLast, InFirstOrder, IsIn-key, IsIn-pair}
use Rattle.speedy_layout.specs.Members.{IsLast-in, IsIn-last, AreDistinct-keys, same_by_keys}
use Rattle.speedy_layout.specs.Orders.{IsAsymmetric, same_ascending, own_first_order, same_first_order}
use Rattle.speedy_layout.specs.SeenItems.{AreSeen, less_is_asymmetric}
use Rattle.speedy_layout.specs.Gathering.{IsGathering, HasForms, gathered, gathered_behind}

-- what is seen of a pair
abbrev pub seen_pair : {K V A B : Type 0} → (K → A) → (V → B) → K × V → A × B
seen_pair key value e = (key e.0, value e.1)

-- the pairs are just those of the list that are the last ones with their keys
abbrev pub HasLasts : {K V : Type 0} → List (K × V) → List (K × V) → Type 0
HasLasts {K = K} {V = V} items es = (e : K × V) → IsIn e es ↔ IsLast e items

-- pairs by their keys
abbrev pub by_key : {K V : Type 0} → (K → K → Type 0) → K × V → K × V → Type 0
by_key less e f = less e.0 f.0

-- each key stands once
abbrev pub HasDistinctKeys : {K V : Type 0} → List (K × V) → Type 0
HasDistinctKeys es = AreDistinct (keys_of es)

-- ---- the three kinds of maps

-- A map whose keys ascend: key k has value v exactly if the last pair with k in the list is (k, v).
abbrev pub GathersToTreeMap : {K V : Type 0} → (K → K → Type 0) → List (K × V) → List (K × V) → Type 0
GathersToTreeMap less items es = Ascends (by_key less) es × HasLasts items es

-- A map that finds the value of a key: at k it finds v exactly if the last pair with k in the list is (k, v). What is
-- seen of it has no order, so that the same map in another order is the same. Keys in the list that no key is seen as
-- would be lost.
abbrev pub GathersToHashMap : {K A V : Type 0} → (K → A) → List (A × V) → (K → Option V) → Type 0
GathersToHashMap {K = K} {A = A} {V = V} seen items find =
    AreSeen seen (keys_of items) × ((k : K) (v : V) → (find k ≡ Some v) ↔ IsLast {K = A} {V = V} (seen k, v) items)

-- A map whose keys stand in the order of their first occurrences: key k has value v exactly if the last pair with k in
-- the list is (k, v).
abbrev pub GathersToIndexMap : {K V : Type 0} → List (K × V) → List (K × V) → Type 0
GathersToIndexMap items es = HasDistinctKeys es × HasLasts items es × InFirstOrder (keys_of items) (keys_of es)

-- A map whose keys ascend is written in their order.
abbrev pub tree_map : {K V : Type 0} → Mode → (K → K → Type 0) → Format K → Format V → Format (List (K × V))
tree_map mode less L M =
    gathered false mode (unsigned_number 4 mode) (GathersToTreeMap less) (Ascends (by_key less)) (pair L M)

-- One that finds values is written in any order, with each key once.
abbrev pub hash_map : {K A V : Type 0} → Mode → (K → A) → Format A → Format V → Format (K → Option V)
hash_map mode seen L M =
    gathered true mode (unsigned_number 4 mode) (GathersToHashMap seen) HasDistinctKeys (pair L M)

-- One whose keys stand in the order of their first occurrences is written in that order, which is told by each key
-- standing once.
abbrev pub index_map : {K V : Type 0} → Mode → Format K → Format V → Format (List (K × V))
index_map mode L M =
    gathered false mode (unsigned_number 4 mode) GathersToIndexMap HasDistinctKeys (pair L M)

-- ---- their laws

-- pairs with distinct keys are the last ones of their own list
pub own_lasts : {K V : Type 0} (es : List (K × V)) → HasDistinctKeys es → HasLasts es es
own_lasts es d = λ e. (IsIn-last e es d, IsLast-in e es)

module _ {K V : Type 0} where
  -- pairs are ordered as their keys are
  pub by_key_order : {less : K → K → Type 0} → IsAsymmetric less → IsAsymmetric {X = K × V} (by_key less)
  by_key_order order = λ e f. order e.0 f.0

  -- and ascend where these do
  pub Ascends-by_key : (less : K → K → Type 0) (es : List (K × V)) → Ascends less (keys_of es)
      → Ascends (by_key less) es
  Ascends-by_key less [] h = tt
  Ascends-by_key less (e ∷ es) h = (λ f s. h.0 f.0 (IsIn-key f es s), Ascends-by_key less es h.1)

  -- where they ascend, each key stands once
  pub Ascends-distinct_keys : {less : K → K → Type 0} → IsAsymmetric less → (es : List (K × V))
      → Ascends (by_key less) es → HasDistinctKeys es
  Ascends-distinct_keys order [] h = tt
  Ascends-distinct_keys {less = less} order (e ∷ es) h = (
    λ k. let p = IsIn-pair e.0 es k in let l = subst (less e.0) (sym p.1) (h.0 p.0 p.2) in order e.0 e.0 l l,
    Ascends-distinct_keys order es h.1,
  )

  -- maps of one list have the same pairs
  HasLasts-inside : (items es fs : List (K × V)) → HasLasts items es → HasLasts items fs → (e : K × V)
      → IsIn e es → IsIn e fs
  HasLasts-inside items es fs h k e s = (k e).1 ((h e).0 s)

  -- and the same keys
  HasLasts-keys : (items es fs : List (K × V)) → HasLasts items es → HasLasts items fs → (k : K) → IsIn k (keys_of es)
      → IsIn k (keys_of fs)
  HasLasts-keys items es fs h k a s =
      let p = IsIn-pair a es s in
      subst (λ x. IsIn x (keys_of fs)) (sym p.1) (IsIn-key p.0 fs (HasLasts-inside items es fs h k p.0 p.2))

  -- pairs that ascend stand for themselves
  pub own_tree_map : {less : K → K → Type 0} → IsAsymmetric less → (es : List (K × V)) → Ascends (by_key less) es
      → GathersToTreeMap less es es
  own_tree_map order es h = (h, own_lasts es (Ascends-distinct_keys order es h))

  -- pairs with distinct keys that a list has are the last ones of each list of the same map
  pub inside_lasts : (items others es : List (K × V)) → HasDistinctKeys items → HasLasts items es
      → HasLasts others es → (e : K × V)
      → IsIn e items → IsIn e others
  inside_lasts items others es d h k e s = IsLast-in e others ((k e).0 ((h e).1 (IsIn-last e items d s)))

  pub tree_map_is : {less : K → K → Type 0} → IsAsymmetric less
      → IsGathering false (GathersToTreeMap {V = V} less) (Ascends (by_key less))
  tree_map_is {less = less} order = record {
    one_thing = one_map;
    form_distinct = λ items h. AreDistinct-keys items (Ascends-distinct_keys order items h);
    form_inside = λ items others es d h k. inside_lasts items others es (Ascends-distinct_keys order items d) h.1 k.1;
    one_form = λ _ items others es d e h k. one_map items items es (own_tree_map order items d) h
        ∙ one_map others es others k (own_tree_map order others e);
    one_hashed = λ e. absurd (cc);
  } where
    one_map : (items es fs : List (K × V)) → GathersToTreeMap less items es → GathersToTreeMap less items fs → es ≡ fs
    one_map items es fs h k = same_ascending (by_key_order order) es fs h.0 k.0 (HasLasts-inside items es fs h.1 k.1)
        (HasLasts-inside items fs es k.1 h.1)

  -- pairs with distinct keys stand for themselves
  pub own_index_map : (es : List (K × V)) → HasDistinctKeys es → GathersToIndexMap es es
  own_index_map es d = (d, own_lasts es d, own_first_order (keys_of es))

  pub index_map_is : IsGathering false (GathersToIndexMap {K = K} {V = V}) HasDistinctKeys
  index_map_is = record {
    one_thing = one_map;
    form_distinct = AreDistinct-keys;
    form_inside = λ items others es d h k. inside_lasts items others es d h.1 k.1;
    one_form = λ _ items others es d e h k.
        one_map items items es (own_index_map items d) h ∙ one_map others es others k (own_index_map others e);
    one_hashed = λ e. absurd (cc);
  } where
    one_map : (items es fs : List (K × V)) → GathersToIndexMap items es → GathersToIndexMap items fs → es ≡ fs
    one_map items es fs h k =
        let same = same_first_order (keys_of items) (keys_of es) (keys_of fs) h.0 k.0
        (HasLasts-keys items es fs h.1 k.1) (HasLasts-keys items fs es k.1 h.1) h.2 k.2 in
        same_by_keys es fs h.0 same (HasLasts-inside items es fs h.1 k.1)

-- ---- hashed ones

-- the values of an option determine it
pub same_option : {V : Type 0} (o p : Option V) → ((v : V) → (o ≡ Some v) ↔ (p ≡ Some v)) → o ≡ p
same_option (Some v) p h = sym ((h v).0 refl)
same_option None None h = refl
same_option None (Some w) h = (h w).1 refl

-- whether a key is among others is decided of keys and pairs that have encodings
key_decided : {A V : Type 0} {strict : Bool} {n : ℕ} {L : Format A} (M : Format V) → Laws strict n L
    → (a : A) (es : List (A × V)) (s t : List ℕ)
    → L.encodes a s → Each (pair L M).encodes es t → Decided (IsIn a (keys_of es))
unfolding sequence
key_decided M laws a [] s t h k = inr (λ n. n)
key_decided M laws a (e ∷ es) s t h k =
    elim (laws.tells a e.0 s k.first_is.prefix h k.first_is.first_is) [
      | inl same ↦ inl (inl same)
      | inr first ↦ elim (key_decided M laws a es s k.suffix h k.second_is) [
        | inl i ↦ inl (inr i)
        | inr n
            ↦ inr (λ i. elim i [ inl same ↦ first same | inr j ↦ n j ])
      ]
    ]

-- the last pairs with their keys of a list with an encoding, each key once
lasts : {A V : Type 0} {strict : Bool} {n : ℕ} {L : Format A} (M : Format V) → Laws strict n L
    → (es : List (A × V)) (bytes : List ℕ) → Each (pair L M).encodes es bytes
    → (kept : List (A × V)) × AreDistinct (keys_of kept) × HasLasts es kept
unfolding sequence
lasts M laws [] bytes h = ([], tt, λ e. (λ h. h, λ h. h))
lasts {A = A} {V = V} M laws (f ∷ es) bytes h =
    let rest = lasts M laws es h.suffix h.second_is in
    elim (key_decided M laws f.0 es h.first_is.prefix h.suffix h.first_is.first_is h.second_is) [
      | inl again ↦ (
        rest.0,
        rest.1,
        λ e. (
          λ s. inl ((rest.2 e).0 s),
          λ s. elim s [
            | inl k ↦ (rest.2 e).1 k
            | inr k
                ↦ absurd (k.1 (subst (λ (p : A × V). IsIn p.0 (keys_of es)) (sym k.0) again))
          ],
        ),
      )
      | inr absent ↦ (
        f ∷ rest.0,
        (
          λ s. let p = IsIn-pair f.0 rest.0 s in
              absent (subst (λ a. IsIn a (keys_of es)) (sym p.1)
              (IsIn-key p.0 es (IsLast-in p.0 es ((rest.2 p.0).0 p.2)))),
          rest.1,
        ),
        λ e. (
          λ s. elim s [
            | inl k ↦ inr (k, λ r. absent (subst (λ (p : A × V). IsIn p.0 (keys_of es)) k r))
            | inr k
                ↦ inl ((rest.2 e).0 k)
          ],
          λ s. elim s [ inl k ↦ inr ((rest.2 e).1 k) | inr k ↦ inl k.0 ],
        ),
      )
    ]

module _ {K A V : Type 0} {seen : K → A} where
  -- what one map finds another finds whose form has its pairs
  finds_more : (xs ys : List (A × V)) (f g : K → Option V) → HasDistinctKeys ys → GathersToHashMap seen xs f
      → GathersToHashMap seen ys g
      → ((e : A × V) → IsIn e xs → IsIn e ys) → (x : K) (v : V) → f x ≡ Some v → g x ≡ Some v
  finds_more xs ys f g d h k there x v s =
      let e : A × V = (seen x, v) in
      (k.1 x v).1 (IsIn-last e ys d (there e (IsLast-in e xs ((h.1 x v).0 s))))

  pub hash_map_is : IsGathering true (GathersToHashMap {V = V} seen) HasDistinctKeys
  hash_map_is = record {
    one_thing = λ items f g h k.
        λ i x. same_option (f x) (g x) (λ v. (λ s. (k.1 x v).1 ((h.1 x v).0 s), λ s. (h.1 x v).1 ((k.1 x v).0 s))) i;
    form_distinct = AreDistinct-keys;
    form_inside = λ items others f d h k e s.
        let x = h.0 e.0 (IsIn-key e items s) in
        let pair : A × V = (seen x.0, e.1) in
        let same : e ≡ pair = ap (λ a. let p : A × V = (a, e.1) in p) (sym x.1) in
        let last = IsIn-last pair items d (subst (λ p. IsIn p items) same s) in
        subst (λ p. IsIn p others) (sym same) (IsLast-in pair others ((k.1 x.0 e.1).0 ((h.1 x.0 e.1).1 last)));
    one_form = λ e. absurd (cc);
    one_hashed = λ _ xs ys f g d e h k there suffix. λ i x. same_option (f x) (g x)
        (λ v. (finds_more xs ys f g e h k there x v, finds_more ys xs g f d k h suffix x v)) i;
  }

  pub hash_map_forms : {strict : Bool} {n : ℕ} {L : Format A} (M : Format V) → Laws strict n L
      → HasForms (pair L M) (GathersToHashMap {V = V} seen) HasDistinctKeys
  hash_map_forms M laws items bytes f encoded h =
      let kept = lasts M laws items bytes encoded in (
        kept.0,
        (
          λ a s. let p = IsIn-pair a kept.0 s in
              h.0 a (subst (λ b. IsIn b (keys_of items)) (sym p.1)
              (IsIn-key p.0 items (IsLast-in p.0 items ((kept.2 p.0).0 p.2)))),
          λ k v. (
            λ s. IsIn-last (seen k, v) kept.0 kept.1 ((kept.2 (seen k, v)).1 ((h.1 k v).0 s)),
            λ s. (h.1 k v).1 ((kept.2 (seen k, v)).0 (IsLast-in (seen k, v) kept.0 s)),
          ),
        ),
        kept.1,
      )

-- Behind the number of pairs. The keys of ascending ones are seen so, and compared so.
abbrev pub tree_map_behind : {K A B : Type 0} → (K → A) → (K → K → Ordering) → Codec A → Codec B
    → (numbers : Numbers) → Behind numbers (List (A × B))
tree_map_behind seen cmp key value =
    gathered_behind false (tree_map_is (less_is_asymmetric seen cmp)) (pair_codec key value)
    (λ f items bytes es encoded h. (es, own_tree_map (less_is_asymmetric seen cmp) es h.0, h.0))

abbrev pub hash_map_behind : {K A B : Type 0} → (K → A) → Codec A → Codec B
    → (numbers : Numbers) → Behind numbers (K → Option B)
hash_map_behind seen key value =
    gathered_behind true (hash_map_is {seen = seen}) (pair_codec key value)
    (λ f. hash_map_forms (value.format f) (key.laws f))

abbrev pub index_map_behind : {A B : Type 0} → Codec A → Codec B → (numbers : Numbers) → Behind numbers (List (A × B))
index_map_behind key value =
    gathered_behind false index_map_is (pair_codec key value)
    (λ f items bytes es encoded h. (es, own_index_map es h.0, h.0))

-- and by themselves behind that number in four bytes
abbrev pub tree_map_codec : {K A B : Type 0} → (K → A) → (K → K → Ordering) → Codec A → Codec B → Codec (List (A × B))
tree_map_codec seen cmp key value = prefixed_codec (tree_map_behind seen cmp key value (unsigned_numbers 4))

abbrev pub hash_map_codec : {K A B : Type 0} → (K → A) → Codec A → Codec B → Codec (K → Option B)
hash_map_codec seen key value = prefixed_codec (hash_map_behind seen key value (unsigned_numbers 4))

abbrev pub index_map_codec : {A B : Type 0} → Codec A → Codec B → Codec (List (A × B))
index_map_codec key value = prefixed_codec (index_map_behind key value (unsigned_numbers 4))
