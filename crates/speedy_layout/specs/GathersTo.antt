-- Which maps and sets of std and of `indexmap` a list of items gathers to.
-- Here keys and items are the same where they are equal; what a collection holds are the list's own, also where others
-- are equal to them.
use Rattle.std.specs.Prelude.{◌≡◌, List, ◌∷◌, Bool, false, IsTrue, Option, Some, ◌↔◌}
use Rattle.std.specs.Map.{keys_of}
use Rattle.std.specs.Set.{is_member}
use Rattle.std.specs.declared.cmp.Ordering.{Ordering}
use Rattle.std.specs.Ordering.{eq_by_cmp}
use Rattle.std.specs.BTreeMap as tree_map
use Rattle.std.specs.HashMap as hash_map
use Rattle.std.specs.BTreeSet as tree_set
use Rattle.std.specs.HashSet as hash_set
use Rattle.std.specs.BTreeMap.{BTreeMap}
use Rattle.std.specs.HashMap.{HashMap}
use Rattle.std.specs.BTreeSet.{BTreeSet}
use Rattle.std.specs.HashSet.{HashSet}
use Rattle.speedy_layout.specs.Members.{IsIn, Around, Around-behind, InFirstOrderBy}

-- the last pair of the list whose key is equal to k has the value v
pub record HasLast {K V : Type 0} (eq : K → K → Bool) (items : List (K × V)) (k : K) (v : V) : Type 0 where
  pub key : K
  pub at : Around {X = K × V} (key, v) items
  pub equal : IsTrue (eq key k)
  pub no_later : (e : K × V) → IsIn e at.after → eq e.0 k ≡ false

-- so it has behind one more
pub HasLast-behind : {K V : Type 0} {eq : K → K → Bool} {items : List (K × V)} {k : K} {v : V} (x : K × V)
    → HasLast eq items k v → HasLast eq (x ∷ items) k v
HasLast-behind x h = record { key = h.key; at = Around-behind x h.at; equal = h.equal; no_later = h.no_later }

-- at the key k the value v is found exactly if the last pair whose key is equal to k has it
abbrev pub HasLastValues : {K V : Type 0} → (K → K → Bool) → List (K × V) → (K → Option V) → Type 0
HasLastValues {K = K} {V = V} eq items find = (k : K) (v : V) → (find k ≡ Some v) ↔ HasLast eq items k v

-- x is held exactly if an item of the list is equal to it
abbrev pub HoldsItems : {T : Type 0} → (T → T → Bool) → List T → (T → Bool) → Type 0
HoldsItems {T = T} eq items holds = (x : T) → holds x ≡ is_member eq items x

-- xs stand in the order of the items' first occurrences; as no two of xs are equal, each is the first of those that are
-- equal to it
abbrev pub AreFirsts : {T : Type 0} → (T → T → Bool) → List T → List T → Type 0
AreFirsts eq items xs = InFirstOrderBy (λ x earlier. IsTrue (is_member eq earlier x)) items xs

module _ {K V : Type 0} where
  -- the map has at each key the value of the last pair with that key; its keys ascend
  abbrev pub IsTreeMapOf : (K → K → Ordering) → List (K × V) → BTreeMap K V → Type 0
  IsTreeMapOf cmp items m = HasLastValues (eq_by_cmp cmp) items (tree_map.get cmp m) × tree_map.IsOrdered cmp m

  -- the same; each key stands once, in any order
  abbrev pub IsHashMapOf : {H : Type 0} → (K → K → Bool) → List (K × V) → HashMap K V H → Type 0
  IsHashMapOf eq items m = HasLastValues eq items (hash_map.get eq m) × hash_map.IsUnique eq m

  -- the same; its keys are the first ones of equal keys, in the order of the list
  abbrev pub IsIndexMapOf : {H : Type 0} → (K → K → Bool) → List (K × V) → HashMap K V H → Type 0
  IsIndexMapOf eq items m = IsHashMapOf eq items m × AreFirsts eq (keys_of items) (hash_map.keys m)

module _ {T : Type 0} where
  -- the set has just the items of the list; they ascend
  abbrev pub IsTreeSetOf : (T → T → Ordering) → List T → BTreeSet T → Type 0
  IsTreeSetOf cmp items s = HoldsItems (eq_by_cmp cmp) items (tree_set.contains cmp s) × tree_set.IsOrdered cmp s

  -- the same; each stands once, in any order
  abbrev pub IsHashSetOf : {H : Type 0} → (T → T → Bool) → List T → HashSet T H → Type 0
  IsHashSetOf eq items s = HoldsItems eq items (hash_set.contains eq s) × hash_set.IsUnique eq s

  -- the same; they are the first ones of equal items, in the order of the list
  abbrev pub IsIndexSetOf : {H : Type 0} → (T → T → Bool) → List T → HashSet T H → Type 0
  IsIndexSetOf eq items s = IsHashSetOf eq items s × AreFirsts eq items s.keys
