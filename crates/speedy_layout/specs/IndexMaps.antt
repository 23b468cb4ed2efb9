-- What `IndexMap` and `IndexSet` say of themselves, as what lists gather to and how it is written.
use Rattle.std.specs.Prelude.{◌≡◌, List, [], ◌∷◌, ◌++◌, length, map, Bool, refl}
use Rattle.std.proofs.Common.{sym, ◌∙◌, ap, subst, arith}
use Rattle.std.proofs.lemmas.List.{map-append, length-append}
use Rattle.std.specs.Map.{keys_of}
use Rattle.std.specs.HashMap as hash
use Rattle.std.specs.HashSet as bag
use Rattle.std.specs.HashMap.{HashMap}
use Rattle.std.specs.HashSet.{HashSet}
use Rattle.speedy_layout.specs.Members.{IsIn, AreDistinct, Around, Around-behind, InFirstOrder}
use Rattle.speedy_layout.specs.Equality.{TellsApart}
use Rattle.speedy_layout.specs.GathersTo.{AreFirsts, IsIndexMapOf, IsIndexSetOf}
use Rattle.speedy_layout.specs.Maps.{HasDistinctKeys, GathersToIndexMap, own_index_map}
use Rattle.speedy_layout.specs.Sets.{GathersToIndexSet, own_index_set}
use Rattle.speedy_layout.specs.StdMaps.{seen_pairs, keys_seen, unique_keys_seen, found_lasts}
use Rattle.speedy_layout.specs.StdSets.{member_seen, found_items}
use Rattle.speedy_layout.specs.SeenItems.{item_seen, unique_seen}

-- ---- the order of first occurrences

-- an item that is seen among others stands there, behind what is seen before it
record SeenAround {T A : Type 0} (seen : T → A) (a : A) (before : List A) (xs : List T) : Type 0 where
  item : T
  at : Around item xs
  seen_is : a ≡ seen item
  before_is : before ≡ map seen at.before

module _ {T A : Type 0} (seen : T → A) where
  seen_around : (a : A) (xs : List T) (before after : List A) → map seen xs ≡ before ++ a ∷ after
      → SeenAround seen a before xs
  seen_around a [] before after e = let l = ap length e ∙ length-append before (a ∷ after) in absurd (omega arith)
  seen_around a (x ∷ xs) [] after e = record {
    item = x;
    at = record { before = []; after = xs; whole_is = refl };
    seen_is = cc;
    before_is = refl;
  }
  seen_around a (x ∷ xs) (b ∷ before) after e =
      let heads : seen x ≡ b = cc in
      let tails : map seen xs ≡ before ++ a ∷ after = cc in
      let rest = seen_around a xs before after tails in
      record {
        item = rest.item;
        at = Around-behind x rest.at;
        seen_is = rest.seen_is;
        before_is = let t = rest.before_is in let s : b ∷ before ≡ seen x ∷ map seen rest.at.before = cc in s;
      }

-- the first ones of equal items are seen in the order of first occurrences
firsts_seen : {T A : Type 0} {seen : T → A} {eq : T → T → Bool} → TellsApart eq seen → (items xs : List T)
    → AreFirsts eq items xs → InFirstOrder (map seen items) (map seen xs)
firsts_seen {seen = seen} same_key items xs h a at =
    let p = seen_around seen a xs at.before at.after at.whole_is in
    let f = h p.item p.at in
    let joined = map-append seen f.at.before (p.item ∷ f.at.after) in
    record {
      at = record {
        before = map seen f.at.before;
        after = map seen f.at.after;
        whole_is =
            ap (map seen) f.at.whole_is
            ∙ (joined ∙ ap (λ z. map seen f.at.before ++ z ∷ map seen f.at.after) (sym p.seen_is));
      };
      others = λ y s.
          let z = item_seen seen y f.at.before s in
          let found = (member_seen seen same_key z.0 p.at.before).0 (f.others z.0 z.2) in
          subst (IsIn y) (sym p.before_is) (subst (λ b. IsIn b (map seen p.at.before)) (sym z.1) found);
    }

-- ---- `IndexSet`

module _ {T A H : Type 0} {seen : T → A} {eq : T → T → Bool} (same_key : TellsApart eq seen) where
  -- the set of a list is what its items gather to
  pub index_set_seen : (xs : List T) (s : HashSet T H) → IsIndexSetOf eq xs s
      → GathersToIndexSet (map seen xs) (map seen s.keys)
  index_set_seen xs s h = (
    unique_seen same_key s.keys h.0.1,
    found_items seen same_key xs s.keys h.0.0,
    firsts_seen same_key xs s.keys h.1,
  )

  -- its items in their order are its form
  pub index_set_items : (s : HashSet T H) → bag.IsUnique eq s
      → GathersToIndexSet (map seen s.keys) (map seen s.keys) × AreDistinct (map seen s.keys)
  index_set_items s h = let d = unique_seen same_key s.keys h in (own_index_set (map seen s.keys) d, d)

-- ---- `IndexMap`

module _ {K V A B H : Type 0} {seen : K → A} {eq : K → K → Bool} (value : V → B) (same_key : TellsApart eq seen) where
  -- the map of a list is what its pairs gather to
  pub index_map_seen : (xs : List (K × V)) (m : HashMap K V H) → IsIndexMapOf eq xs m
      → GathersToIndexMap (seen_pairs seen value xs) (seen_pairs seen value m.entries)
  index_map_seen xs m h =
      let d = unique_keys_seen seen value same_key m.entries h.0.1 in
      let firsts = firsts_seen same_key (keys_of xs) (keys_of m.entries) h.1 in (
        d,
        found_lasts seen value same_key xs m.entries d h.0.0,
        subst (λ ks. InFirstOrder ks (keys_of (seen_pairs seen value m.entries))) (sym (keys_seen seen value xs))
            (subst (InFirstOrder (map seen (keys_of xs))) (sym (keys_seen seen value m.entries)) firsts),
      )

  -- its entries in their order are its form
  pub index_map_entries : (m : HashMap K V H) → hash.IsUnique eq m
      → GathersToIndexMap (seen_pairs seen value m.entries) (seen_pairs seen value m.entries)
      × HasDistinctKeys (seen_pairs seen value m.entries)
  index_map_entries m h =
      let d = unique_keys_seen seen value same_key m.entries h in
      (own_index_map (seen_pairs seen value m.entries) d, d)
