-- Where the equality of keys and values tells apart just what is seen apart, that of maps and sets of them does.
use Rattle.std.specs.Prelude.{Bool, ◌&&◌, Option, option_map}
use Rattle.std.proofs.Common.{ap}
use Rattle.std.specs.Cmp.{IsEquivalence}
use Rattle.std.specs.HashMap.{HashMap, get, hash_map_eq}
use Rattle.std.specs.HashMap.Eq.{hash_map_eq_from_get, get_from_hash_map_eq}
use Rattle.std.specs.HashSet.{HashSet, contains, hash_set_eq}
use Rattle.std.specs.HashSet.Eq.{hash_set_eq_decides}
use Rattle.speedy_layout.specs.Equality.{TellsApart, first_part, last_part, option_tells}
use Rattle.speedy_layout.specs.Maps.{seen_pair}

-- maps that find alike are equal
pub same_hash_maps : {K V W H : Type 0} {key_eq : K → K → Bool} {eq : V → V → Bool} {seen : V → W} → TellsApart eq seen
    → IsEquivalence key_eq
    → TellsApart {A = HashMap K V H} {V = K → Option W} (hash_map_eq key_eq eq)
    (λ m k. option_map seen (get key_eq m k))
same_hash_maps {key_eq = key_eq} {eq = eq} same laws m n = (
  λ h. λ i k. (option_tells same (get key_eq m k) (get key_eq n k)).0 (get_from_hash_map_eq key_eq eq laws m n h k) i,
  λ e. hash_map_eq_from_get key_eq eq m n
      (λ k. (option_tells same (get key_eq m k) (get key_eq n k)).1 (ap (λ f. f k) e)),
)

-- pairs that are the same in both parts are equal
pub same_pairs : {K V A B : Type 0} {key_eq : K → K → Bool} {eq : V → V → Bool} {key : K → A} {value : V → B}
    → TellsApart key_eq key
    → TellsApart eq value → TellsApart (λ p q. key_eq p.0 q.0 && eq p.1 q.1) (seen_pair key value)
same_pairs same other p q = first_part (same p.0 q.0) (last_part (other p.1 q.1))

-- sets that hold alike are equal
pub same_hash_sets : {T H : Type 0} {eq : T → T → Bool} → IsEquivalence eq
    → TellsApart {A = HashSet T H} (hash_set_eq eq) (contains eq)
same_hash_sets laws s t =
    (λ h. λ i x. (hash_set_eq_decides laws s t).0 h x i, λ e. (hash_set_eq_decides laws s t).1 (λ x. ap (λ f. f x) e))
