-- The length of each kind of map and set: how many pairs or items it has. In a list that stands for one no key and no
-- item is repeated, where its length is told elsewhere.
use Rattle.std.specs.Prelude.{ℕ, List, [], Bool, Option}
use Rattle.std.specs.Map.{keys_of}
use Rattle.std.specs.declared.cmp.Ordering.{Ordering}
use Rattle.std.proofs.Common.{subst, sym, arith}
use Rattle.std.proofs.lemmas.List.{length-map}
use Rattle.speedy_layout.specs.GatheredLengths.{IsSingle, AreForms, own_lengths, HasLengths-beside}
use Rattle.speedy_layout.specs.GatheredLengths.{IsGathering-beside, distinct_too, gathered_counting}
use Rattle.speedy_layout.specs.Laws.{Codec}
use Rattle.speedy_layout.specs.Lengths.{Counting}
use Rattle.speedy_layout.specs.Maps.{by_key, HasDistinctKeys, GathersToTreeMap, GathersToHashMap}
use Rattle.speedy_layout.specs.Maps.{GathersToIndexMap, tree_map_is, hash_map_is, index_map_is, own_tree_map}
use Rattle.speedy_layout.specs.Maps.{own_index_map, inside_lasts, Ascends-distinct_keys}
use Rattle.speedy_layout.specs.Members.{IsIn, AreDistinct, Ascends, IsIn-key, IsIn-pair, AreDistinct-keys}
use Rattle.speedy_layout.specs.Orders.{IsAsymmetric, Ascends-distinct}
use Rattle.speedy_layout.specs.SeenItems.{less_is_asymmetric}
use Rattle.speedy_layout.specs.Sets.{GathersToTreeSet, GathersToHashSet, GathersToIndexSet, tree_set_is}
use Rattle.speedy_layout.specs.Sets.{hash_set_is, index_set_is, own_tree_set, own_index_set}
use Rattle.speedy_layout.specs.Tuples.{pair_codec}

-- ---- maps

module _ {K V S : Type 0} {stands : List (K × V) → S → Type 0} where
  -- a list in which each key stands once has the pairs of every list of the same map
  pub keys_single : ((xs ys : List (K × V)) (s : S) → HasDistinctKeys xs → stands xs s → stands ys s
      → (e : K × V) → IsIn e xs → IsIn e ys)
      → IsSingle stands HasDistinctKeys
  keys_single inside = record {
    distinct = AreDistinct-keys;
    inside = inside;
    no_longer = λ xs ys s d h k fewer.
        distinct_too (keys_of xs) [] (keys_of ys) d
        (λ x i. let p = IsIn-pair x xs i in
        subst (λ z. IsIn z (keys_of ys)) (sym p.1) (IsIn-key p.0 ys (inside xs ys s d h k p.0 p.2)))
        (let l = length-map xs (λ (e : K × V). e.0) in let m = length-map ys (λ (e : K × V). e.0) in omega arith);
  }

module _ {K V : Type 0} where
  pub tree_map_single : (less : K → K → Type 0) → IsSingle (GathersToTreeMap {V = V} less) HasDistinctKeys
  tree_map_single less = keys_single (λ xs ys es d h k. inside_lasts xs ys es d h.1 k.1)

  pub tree_maps_are_forms : {less : K → K → Type 0} → IsAsymmetric less
      → AreForms (GathersToTreeMap {V = V} less) (Ascends (by_key less)) HasDistinctKeys
  tree_maps_are_forms order xs es h = (own_tree_map order es h.0, h.0, Ascends-distinct_keys order es h.0)

  pub index_map_single : IsSingle (GathersToIndexMap {K = K} {V = V}) HasDistinctKeys
  index_map_single = keys_single (λ xs ys es d h k. inside_lasts xs ys es d h.1 k.1)

  pub index_maps_are_forms : AreForms (GathersToIndexMap {K = K} {V = V}) HasDistinctKeys HasDistinctKeys
  index_maps_are_forms xs es h = (own_index_map es h.0, h.0, h.0)

pub hash_map_single : {K A V : Type 0} {seen : K → A} → IsSingle (GathersToHashMap {V = V} seen) HasDistinctKeys
hash_map_single {seen = seen} = keys_single (hash_map_is {seen = seen}).form_inside

-- ---- sets

-- a list of distinct items has those of every list of the same set
pub items_single : {T S : Type 0} {stands : List T → S → Type 0}
    → ((xs ys : List T) (s : S) → AreDistinct xs → stands xs s → stands ys s → (x : T) → IsIn x xs → IsIn x ys)
    → IsSingle stands AreDistinct
items_single inside = record {
  distinct = λ xs d. d;
  inside = inside;
  no_longer = λ xs ys s d h k fewer. distinct_too xs [] ys d (inside xs ys s d h k) fewer;
}

module _ {T : Type 0} where
  pub tree_set_single : (less : T → T → Type 0) → IsSingle (GathersToTreeSet less) AreDistinct
  tree_set_single less = items_single (λ xs ys s d h k x i. (k.1 x).0 ((h.1 x).1 i))

  pub tree_sets_are_forms : {less : T → T → Type 0} → IsAsymmetric less
      → AreForms (GathersToTreeSet less) (Ascends less) AreDistinct
  tree_sets_are_forms {less = less} order xs s h = (own_tree_set less s h.0, h.0, Ascends-distinct order s h.0)

  pub index_set_single : IsSingle (GathersToIndexSet {T = T}) AreDistinct
  index_set_single = items_single (λ xs ys s d h k x i. (k.1 x).0 ((h.1 x).1 i))

  pub index_sets_are_forms : AreForms (GathersToIndexSet {T = T}) AreDistinct AreDistinct
  index_sets_are_forms xs s h = (own_index_set s h.0, h.0, h.0)

pub hash_set_single : {T A : Type 0} {seen : T → A} → IsSingle (GathersToHashSet seen) AreDistinct
hash_set_single {seen = seen} = items_single (hash_set_is {seen = seen}).form_inside

-- ---- those of a length

-- The keys of ascending ones are seen so, and compared so.
abbrev pub tree_map_counting : {K A B : Type 0} → (K → A) → (K → K → Ordering) → Codec A → Codec B
    → Counting (List (A × B))
tree_map_counting seen cmp key value =
    let order = less_is_asymmetric seen cmp in
    gathered_counting (tree_map_is order) (own_lengths (tree_map_single _) (tree_maps_are_forms order))
    (pair_codec key value)

-- What is seen of one that finds values does not tell its length.
abbrev pub hash_map_counting : {K A B : Type 0} → (K → A) → Codec A → Codec B → Counting ((K → Option B) × ℕ)
hash_map_counting seen key value =
    gathered_counting (IsGathering-beside (hash_map_is {seen = seen}))
    (HasLengths-beside (hash_map_single {seen = seen})) (pair_codec key value)

abbrev pub index_map_counting : {A B : Type 0} → Codec A → Codec B → Counting (List (A × B))
index_map_counting key value =
    gathered_counting index_map_is (own_lengths index_map_single index_maps_are_forms) (pair_codec key value)

abbrev pub tree_set_counting : {T A : Type 0} → (T → A) → (T → T → Ordering) → Codec A → Counting (List A)
tree_set_counting seen cmp item =
    let order = less_is_asymmetric seen cmp in
    gathered_counting (tree_set_is order) (own_lengths (tree_set_single _) (tree_sets_are_forms order)) item

abbrev pub hash_set_counting : {T A : Type 0} → (T → A) → Codec A → Counting ((T → Bool) × ℕ)
hash_set_counting seen item =
    gathered_counting (IsGathering-beside (hash_set_is {seen = seen}))
    (HasLengths-beside (hash_set_single {seen = seen})) item

abbrev pub index_set_counting : {A : Type 0} → Codec A → Counting (List A)
index_set_counting item =
    gathered_counting index_set_is (own_lengths index_set_single index_sets_are_forms) item
