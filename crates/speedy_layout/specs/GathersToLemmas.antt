-- How lists gather to maps and sets: no items, one more, and many more, as std's `extend` adds them and `collect` makes
-- them.
use Rattle.std.specs.Prelude.{◌≡◌, List, [], ◌∷◌, ◌++◌, length, Bool, true, false, cond, IsTrue, IsSome, is_some}
use Rattle.std.specs.Prelude.{Option, Some, None, if◌then◌else◌, ◌⊎◌, ◌↔◌, ◌||◌, refl}
use Rattle.std.specs.Option.{option_or}
use Rattle.std.proofs.Common.{sym, ◌∙◌, ap, subst, inl, inr, arith, true≢false}
use Rattle.std.proofs.lemmas.List.{append_assoc, append-nil, length-append, map-append}
use Rattle.std.proofs.lemmas.List.Sums.{fold-append}
use Rattle.std.proofs.lemmas.Map.Made.{is_some-lookup, update_all_none}
use Rattle.std.specs.List.{list_any}
use Rattle.std.specs.Map.{keys_of, update, update_all}
use Rattle.std.specs.Set.{is_member}
use Rattle.std.specs.Cmp.{IsEquivalence, IsTotalOrder}
use Rattle.std.specs.Ordering.{eq_by_cmp}
use Rattle.std.proofs.lemmas.Cmp.{eq_by_cmp_equiv}
use Rattle.std.proofs.lemmas.Map.Keys.{IsDistinct-from_sorted}
use Rattle.std.specs.BTreeMap as tree_map
use Rattle.std.specs.HashMap as hash_map
use Rattle.std.specs.BTreeSet as tree_set
use Rattle.std.specs.HashSet as hash_set
use Rattle.std.specs.BTreeMap.{BTreeMap}
use Rattle.std.specs.BTreeSet.{BTreeSet}
use Rattle.std.specs.HashMap.{HashMap}
use Rattle.std.specs.HashSet.{HashSet}
use Rattle.std.specs.declared.cmp.Ordering.{Ordering}
use Rattle.indexmap.specs.IndexMap.{insert_entry}
use Rattle.indexmap.specs.IndexMap as index_map
use Rattle.indexmap.specs.IndexSet.{insert_key}
use Rattle.indexmap.specs.IndexSet as index_set
use Rattle.speedy_layout.specs.Members.{IsIn, Around, ComesFirst, InFirstOrderBy, IsIn-left, IsIn-right, IsIn-either}
use Rattle.speedy_layout.specs.Members.{IsIn-pair, around_last, Around-more}
use Rattle.speedy_layout.specs.GathersTo.{HasLast, HasLastValues, HoldsItems, AreFirsts, IsTreeMapOf, IsHashMapOf}
use Rattle.speedy_layout.specs.GathersTo.{IsIndexMapOf, IsTreeSetOf, IsHashSetOf, IsIndexSetOf, HasLast-behind}

or_true : (b : Bool) → IsTrue (b || true)
or_true true = refl
or_true false = refl

no_item : {X : Type 0} {x : X} → Around x [] → ⊥
no_item {x = x} at = let l = ap length at.whole_is ∙ length-append at.before (x ∷ at.after) in absurd (omega arith)

-- ---- the last values of keys

module _ {K V : Type 0} {eq : K → K → Bool} where
  -- no pairs give no key a value
  pub no_values : HasLastValues {V = V} eq [] (λ _. None)
  no_values k v = (λ e. absurd (cc), λ h. absurd (no_item h.at))

  module _ (items : List (K × V)) (e : K × V) where
    last_one : (k : K) → IsTrue (eq e.0 k) → HasLast eq (items ++ e ∷ []) k e.1
    last_one k same = record {
      key = e.0;
      at = record { before = items; after = []; whole_is = refl };
      equal = same;
      no_later = λ f s. absurd s;
    }

    last_of_others : (k : K) (v : V) → eq e.0 k ≡ false → HasLast eq items k v
        → HasLast eq (items ++ e ∷ []) k v
    last_of_others k v differs h =
        let pair : K × V = (h.key, v) in
        record {
          key = h.key;
          at = Around-more pair items (e ∷ []) h.at;
          equal = h.equal;
          no_later = λ f s.
              elim (IsIn-either f h.at.after (e ∷ []) s) [
                | inl t ↦ h.no_later f t
                | inr t ↦ elim t [
                  | inl i ↦ subst (λ (p : K × V). eq p.0 k ≡ false) (sym i) differs
                  | inr n ↦ absurd n
                ]
              ];
        }

    last_of_either : (k : K) (v : V) → HasLast eq (items ++ e ∷ []) k v
        → (IsTrue (eq e.0 k) × (v ≡ e.1)) ⊎ ((eq e.0 k ≡ false) × HasLast eq items k v)
    last_of_either k v h =
        let pair : K × V = (h.key, v) in
        elim (around_last pair e items h.at.before h.at.after h.at.whole_is) [
          | inl s ↦ inl (subst (λ (p : K × V). IsTrue (eq p.0 k)) s.1 h.equal, ap (λ (p : K × V). p.1) s.1)
          | inr s ↦ inr (
            h.no_later e (subst (IsIn e) (sym s.2) (IsIn-right e s.0 (e ∷ []) (inl refl))),
            record {
              key = h.key;
              at = record { before = h.at.before; after = s.0; whole_is = s.1 };
              equal = h.equal;
              no_later = λ f t. h.no_later f (subst (IsIn f) (sym s.2) (IsIn-left f s.0 (e ∷ []) t));
            },
          )
        ]

    -- one more pair gives its key its value
    pub one_more_value : (find next : K → Option V) → HasLastValues eq items find
        → ((q : K) → next q ≡ cond (eq e.0 q) (Some e.1) (find q))
        → HasLastValues eq (items ++ e ∷ []) next
    one_more_value find next h is k v = by (eq e.0 k) refl where
      by : (b : Bool) → eq e.0 k ≡ b → (next k ≡ Some v) ↔ HasLast eq (items ++ e ∷ []) k v
      by true same =
          let new : next k ≡ Some e.1 = is k ∙ ap (λ b. cond b (Some e.1) (find k)) same in (
            λ s.
                let t : Some e.1 ≡ Some v = sym new ∙ s in
                let w : e.1 ≡ v = cc in
                subst (HasLast eq (items ++ e ∷ []) k) w (last_one k same),
            λ s.
                elim (last_of_either k v s) [
                  | inl t ↦ new ∙ ap Some (sym t.1)
                  | inr t ↦ absurd (true≢false (sym same ∙ t.0))
                ],
          )
      by false differs =
          let old : next k ≡ find k = is k ∙ ap (λ b. cond b (Some e.1) (find k)) differs in (
            λ s. last_of_others k v differs ((h k v).0 (sym old ∙ s)),
            λ s.
                elim (last_of_either k v s) [
                  | inl t ↦ absurd (true≢false (sym t.0 ∙ differs))
                  | inr t ↦ old ∙ (h k v).1 t.1
                ],
          )

  all_values : (done xs : List (K × V)) (find : K → Option V) → HasLastValues eq done find
      → HasLastValues eq (done ++ xs) (update_all eq find xs)
  all_values done [] find h = subst (λ l. HasLastValues eq l find) (sym (append-nil done)) h
  all_values done (x ∷ xs) find h =
      let next = update eq find x.0 (Some x.1) in
      subst (λ l. HasLastValues eq l (update_all eq find (x ∷ xs))) (append_assoc done (x ∷ []) xs)
      (all_values (done ++ x ∷ []) xs next (one_more_value done x find next h (λ q. refl)))

  -- pairs that are inserted in turn, behind others, give each key its last value
  pub more_values : (items xs : List (K × V)) (find next : K → Option V) → HasLastValues eq items find
      → ((q : K) → next q ≡ update_all eq find xs q) → HasLastValues eq (items ++ xs) next
  more_values items xs find next h is k v =
      let all = all_values items xs find h k v in
      (λ s. all.0 (sym (is k) ∙ s), λ l. is k ∙ all.1 l)

  -- a key has a last value, or no key is equal to it
  last_or_none : (items : List (K × V)) (k : K)
      → ((v : V) × HasLast eq items k v) ⊎ ((e : K × V) → IsIn e items → eq e.0 k ≡ false)
  last_or_none [] k = inr (λ e s. absurd s)
  last_or_none (x ∷ xs) k =
      elim (last_or_none xs k) [
        | inl l ↦ inl (l.0, HasLast-behind x l.1)
        | inr none ↦ by none (eq x.0 k) refl
      ]
    where
      by : ((e : K × V) → IsIn e xs → eq e.0 k ≡ false) → (b : Bool) → eq x.0 k ≡ b
          → ((v : V) × HasLast eq (x ∷ xs) k v) ⊎ ((e : K × V) → IsIn e (x ∷ xs) → eq e.0 k ≡ false)
      by none true same =
          let here : Around {X = K × V} (x.0, x.1) (x ∷ xs) = record { before = []; after = xs; whole_is = refl } in
          inl (x.1, record { key = x.0; at = here; equal = same; no_later = none })
      by none false differs =
          inr (λ e s.
          elim s [
            | inl i ↦ subst (λ (p : K × V). eq p.0 k ≡ false) (sym i) differs
            | inr t ↦ none e t
          ])

  module _ {items : List (K × V)} {find : K → Option V} (h : HasLastValues eq items find) (k : K) where
    -- a key that is equal to one in the list has a value
    pub has_value : (e : K × V) → IsIn e items → IsTrue (eq e.0 k) → IsSome (find k)
    has_value e s same =
        elim (last_or_none items k) [
          | inl l ↦ ap is_some ((h k l.0).1 l.1)
          | inr none ↦ absurd (true≢false (sym same ∙ none e s))
        ]

    -- and no other
    pub value_key : IsSome (find k) → (e : K × V) × IsIn e items × IsTrue (eq e.0 k)
    value_key = by (find k) refl where
      by : (o : Option V) → find k ≡ o → IsSome o → (e : K × V) × IsIn e items × IsTrue (eq e.0 k)
      by None is some = absurd (cc)
      by (Some v) is some =
          let l = (h k v).0 is in
          let pair : K × V = (l.key, v) in
          let there = IsIn-right pair l.at.before (pair ∷ l.at.after) (inl refl) in
          (pair, subst (IsIn pair) (sym l.at.whole_is) there, l.equal)

-- pairs that are inserted in turn give their keys the same values whatever was there, and leave the other keys' values
update_over : {K V : Type 0} (eq : K → K → Bool) (xs : List (K × V)) (q : K) (from find others : K → Option V)
    → find q ≡ option_or (from q) (others q)
    → update_all eq find xs q ≡ option_or (update_all eq from xs q) (others q)
update_over eq [] q from find others is = is
update_over eq (x ∷ xs) q from find others is =
    update_over eq xs q (update eq from x.0 (Some x.1)) (update eq find x.0 (Some x.1)) others (by (eq x.0 q))
  where
    by : (b : Bool) → cond b (Some x.1) (find q) ≡ option_or (cond b (Some x.1) (from q)) (others q)
    by true = refl
    by false = is

-- ---- the order of first occurrences

module _ {X : Type 0} {has : X → List X → Type 0} where
  ComesFirst-more : (x : X) (earlier items more : List X) → ComesFirst has x earlier items
      → ComesFirst has x earlier (items ++ more)
  ComesFirst-more x earlier items more h = record { at = Around-more x items more h.at; others = h.others }

  -- an item that is there already leaves the order
  first_order_again : (items xs : List X) (k : X) → InFirstOrderBy has items xs
      → InFirstOrderBy has (items ++ k ∷ []) xs
  first_order_again items xs k h x at = ComesFirst-more x at.before items (k ∷ []) (h x at)

  -- a new one goes last
  first_order_new : (items xs : List X) (k : X) → ((x : X) → IsIn x items → has x xs)
      → InFirstOrderBy has items xs → InFirstOrderBy has (items ++ k ∷ []) (xs ++ k ∷ [])
  first_order_new items xs k inside h x at =
      elim (around_last x k xs at.before at.after at.whole_is) [
        | inl s ↦ record {
          at = record { before = items; after = []; whole_is = ap (λ z. items ++ z ∷ []) (sym s.1) };
          others = λ y t. subst (has y) (sym s.0) (inside y t);
        }
        | inr s ↦
            let there : Around x xs = record { before = at.before; after = s.0; whole_is = s.1 } in
            ComesFirst-more x at.before items (k ∷ []) (h x there)
      ]

module _ {T : Type 0} (eq : T → T → Bool) where
  -- no items have no firsts
  pub no_firsts : AreFirsts eq [] []
  no_firsts x at = absurd (no_item at)

  -- items with one more have its first after theirs, if it is new
  pub one_more_first : (items ks : List T) (x : T) → ((y : T) → IsIn y items → IsTrue (is_member eq ks y))
      → AreFirsts eq items ks → AreFirsts eq (items ++ x ∷ []) (insert_key eq ks x)
  one_more_first items ks x inside h = by (list_any (eq x) ks) where
    by : (b : Bool) → AreFirsts eq (items ++ x ∷ []) (cond b ks (ks ++ x ∷ []))
    by true = first_order_again items ks x h
    by false = first_order_new items ks x inside h

-- ---- equal items

module _ {T : Type 0} {eq : T → T → Bool} (laws : IsEquivalence eq) where
  -- an item of a list is found in it
  pub IsIn-member : (x : T) (xs : List T) → IsIn x xs → IsTrue (is_member eq xs x)
  IsIn-member x [] s = absurd s
  IsIn-member x (y ∷ ys) (inl e) = ap (λ b. b || is_member eq ys x) (subst (λ z. eq x z ≡ true) e (laws.refl x))
  IsIn-member x (y ∷ ys) (inr s) = by (eq x y) (IsIn-member x ys s) where
    by : (b : Bool) → IsTrue (is_member eq ys x) → IsTrue (b || is_member eq ys x)
    by true h = refl
    by false h = h

  -- and in more items where it was, or is new
  pub member_more : (xs ys : List T) (q : T) → is_member eq (xs ++ ys) q ≡ (is_member eq xs q || is_member eq ys q)
  member_more [] ys q = refl
  member_more (x ∷ xs) ys q = by (eq q x) (member_more xs ys q) where
    by : (b : Bool) → is_member eq (xs ++ ys) q ≡ (is_member eq xs q || is_member eq ys q)
        → (b || is_member eq (xs ++ ys) q) ≡ ((b || is_member eq xs q) || is_member eq ys q)
    by true h = refl
    by false h = h

  -- the keys after one more is inserted hold what they held, and it
  insert_key_holds : (ks : List T) (x y : T) → IsTrue (is_member eq ks y) ⊎ (y ≡ x)
      → IsTrue (is_member eq (insert_key eq ks x) y)
  insert_key_holds ks x y s = by (list_any (eq x) ks) refl where
    by : (b : Bool) → list_any (eq x) ks ≡ b → IsTrue (is_member eq (if b then ks else ks ++ x ∷ []) y)
    by true is = elim s [ inl t ↦ t | inr e ↦ subst (λ z. IsTrue (is_member eq ks z)) (sym e) is ]
    by false is =
        member_more ks (x ∷ []) y
        ∙ elim s [
          | inl t ↦ ap (λ b. b || is_member eq (x ∷ []) y) t
          | inr e ↦ rw (IsIn-member y (x ∷ []) (inl e)) (or_true (is_member eq ks y))
        ]

  -- items that are inserted in turn, behind others, have their firsts in the order of all
  pub all_firsts : (done ks xs : List T) → ((y : T) → IsIn y done → IsTrue (is_member eq ks y))
      → AreFirsts eq done ks → AreFirsts eq (done ++ xs) (index_set.insert_all eq ks xs)
  all_firsts done ks [] inside h = subst (λ l. AreFirsts eq l ks) (sym (append-nil done)) h
  all_firsts done ks (x ∷ xs) inside h =
      subst (λ l. AreFirsts eq l (index_set.insert_all eq ks (x ∷ xs))) (append_assoc done (x ∷ []) xs)
      (all_firsts (done ++ x ∷ []) (insert_key eq ks x) xs
      (λ y s.
      insert_key_holds ks x y
      (elim (IsIn-either y done (x ∷ []) s) [
        | inl t ↦ inl (inside y t)
        | inr t ↦ elim t [ inl e ↦ inr e | inr n ↦ absurd n ]
      ]))
      (one_more_first eq done ks x inside h))

  -- one more item is held too
  pub one_more_held : (items : List T) (x : T) (holds next : T → Bool) → HoldsItems eq items holds
      → ((q : T) → next q ≡ cond (eq x q) true (holds q)) → HoldsItems eq (items ++ x ∷ []) next
  one_more_held items x holds next h is q =
      let turned = ap (λ b. is_member eq items q || (b || false)) (laws.symm x q) in
      is q ∙ ap (cond (eq x q) true) (h q)
      ∙ (by (eq x q) (is_member eq items q) ∙ (turned ∙ sym (member_more items (x ∷ []) q)))
    where
      by : (b c : Bool) → cond b true c ≡ (c || (b || false))
      by true true = refl
      by true false = refl
      by false true = refl
      by false false = refl

  -- and so are many
  pub more_held : (items xs : List T) (holds next : T → Bool) → HoldsItems eq items holds
      → ((q : T) → next q ≡ (holds q || is_member eq xs q)) → HoldsItems eq (items ++ xs) next
  more_held items xs holds next h is q =
      is q ∙ ap (λ b. b || is_member eq xs q) (h q) ∙ sym (member_more items xs q)

-- ---- `IndexMap`'s keys

module _ {K V : Type 0} (eq : K → K → Bool) where
  -- the keys after a pair is inserted are those after its key is
  insert_entry_keys : (es : List (K × V)) (k : K) (v : V)
      → keys_of (insert_entry eq es k v) ≡ insert_key eq (keys_of es) k
  insert_entry_keys [] k v = refl
  insert_entry_keys (e ∷ es) k v = by (insert_entry_keys es k v) (eq k e.0) where
    by : keys_of (insert_entry eq es k v) ≡ insert_key eq (keys_of es) k
        → (b : Bool)
        → keys_of (if b then (e.0, v) ∷ es else e ∷ insert_entry eq es k v)
        ≡ (if b || list_any (eq k) (keys_of es) then e.0 ∷ keys_of es else e.0 ∷ (keys_of es ++ k ∷ []))
    by rest true = refl
    by rest false = ap (λ ks. e.0 ∷ ks) rest ∙ next (list_any (eq k) (keys_of es)) where
      next : (c : Bool) → e.0 ∷ (if c then keys_of es else keys_of es ++ k ∷ [])
          ≡ (if c then e.0 ∷ keys_of es else e.0 ∷ (keys_of es ++ k ∷ []))
      next true = refl
      next false = refl

  insert_all_keys : (es xs : List (K × V))
      → keys_of (index_map.insert_all eq es xs) ≡ index_set.insert_all eq (keys_of es) (keys_of xs)
  insert_all_keys es [] = refl
  insert_all_keys es (x ∷ xs) =
      insert_all_keys (insert_entry eq es x.0 x.1) xs
      ∙ ap (λ ks. index_set.insert_all eq ks (keys_of xs)) (insert_entry_keys es x.0 x.1)

-- each item has a first, which is held
firsts_held : {T H : Type 0} {eq : T → T → Bool} → IsEquivalence eq → (items : List T) (s : HashSet T H)
    → HoldsItems eq items (hash_set.contains eq s) → (y : T) → IsIn y items → IsTrue (is_member eq s.keys y)
firsts_held laws items s holds y i = holds y ∙ IsIn-member laws y items i

first_keys_held : {K V H : Type 0} {eq : K → K → Bool} → IsEquivalence eq → (items : List (K × V)) (m : HashMap K V H)
    → HasLastValues eq items (hash_map.get eq m) → (y : K) → IsIn y (keys_of items)
    → IsTrue (is_member eq (hash_map.keys m) y)
first_keys_held {eq = eq} laws items m values y s =
    let p = IsIn-pair y items s in
    sym (is_some-lookup (eq y) m.entries)
    ∙ has_value values y p.0 p.2 (subst (λ z. eq z y ≡ true) p.1 (laws.refl y))

-- ---- what inserting many more makes

module _ {K V : Type 0} (items xs : List (K × V)) where
  -- a tree is made anew of its own pairs, and of more behind them
  pub tree_map_remade : {cmp : K → K → Ordering} → IsTotalOrder cmp → (m n : BTreeMap K V) → IsTreeMapOf cmp items m
      → tree_map.IsFromIterResult cmp (m.entries ++ xs) n → IsTreeMapOf cmp (items ++ xs) n
  tree_map_remade {cmp = cmp} total m n h made = (
    more_values items xs (tree_map.get cmp m) (tree_map.get cmp n) h.0 (λ q.
        made.0 q
        ∙ ap (λ (f : K → Option V). f q) (fold-append (λ f p. update eq f p.0 (Some p.1)) (λ _. None) m.entries xs)
        ∙ update_over eq xs q (λ _. None) (update_all eq (λ _. None) m.entries) (tree_map.get cmp m)
        (update_all_none (eq_by_cmp_equiv total) eq (λ _ _. refl) m.entries q
        (IsDistinct-from_sorted cmp (tree_map.keys m) h.1))
        ∙ sym (update_over eq xs q (λ _. None) (tree_map.get cmp m) (tree_map.get cmp m) refl)),
    made.1,
  ) where
    eq : K → K → Bool
    eq = eq_by_cmp cmp

  module _ {H : Type 0} (eq : K → K → Bool) (m n : HashMap K V H) where
    pub hash_map_extended : IsHashMapOf eq items m → hash_map.InsertsAll eq m xs n → IsHashMapOf eq (items ++ xs) n
    hash_map_extended h all = (
      more_values items xs (hash_map.get eq m) (hash_map.get eq n) h.0 all.0,
      all.1,
    )

    pub index_map_extended : IsEquivalence eq → IsIndexMapOf eq items m → hash_map.InsertsAll eq m xs n
        → n.entries ≡ index_map.insert_all eq m.entries xs → IsIndexMapOf eq (items ++ xs) n
    index_map_extended laws h all entries = (
      hash_map_extended h.0 all,
      subst (λ ks. AreFirsts eq ks (hash_map.keys n)) (sym (map-append (λ (e : K × V). e.0) items xs))
          (subst (AreFirsts eq (keys_of items ++ keys_of xs))
          (sym (ap keys_of entries ∙ insert_all_keys eq m.entries xs))
          (all_firsts laws (keys_of items) (hash_map.keys m) (keys_of xs) (first_keys_held laws items m h.0.0) h.1)),
    )

module _ {T : Type 0} (items xs : List T) where
  -- a tree is made anew of its own items, and of more behind them
  pub tree_set_remade : {cmp : T → T → Ordering} → IsTotalOrder cmp → (s n : BTreeSet T) → IsTreeSetOf cmp items s
      → tree_set.IsFromIterResult cmp (s.keys ++ xs) n → IsTreeSetOf cmp (items ++ xs) n
  tree_set_remade {cmp = cmp} total s n h made = (
    more_held laws items xs (tree_set.contains cmp s) (tree_set.contains cmp n) h.0 (λ q.
        made.0 q ∙ member_more laws s.keys xs q),
    made.1,
  ) where
    laws : IsEquivalence (eq_by_cmp cmp)
    laws = eq_by_cmp_equiv total

  module _ {H : Type 0} {eq : T → T → Bool} (laws : IsEquivalence eq) (s n : HashSet T H) where
    pub hash_set_extended : IsHashSetOf eq items s → hash_set.InsertsAll eq s xs n → IsHashSetOf eq (items ++ xs) n
    hash_set_extended h all = (
      more_held laws items xs (hash_set.contains eq s) (hash_set.contains eq n) h.0 all.0,
      all.1,
    )

    pub index_set_extended : IsIndexSetOf eq items s → hash_set.InsertsAll eq s xs n
        → n.keys ≡ index_set.insert_all eq s.keys xs → IsIndexSetOf eq (items ++ xs) n
    index_set_extended h all keys = (
      hash_set_extended h.0 all,
      subst (AreFirsts eq (items ++ xs)) (sym keys)
          (all_firsts laws items s.keys xs (firsts_held laws items s h.0.0) h.1),
    )

-- ---- what inserting one more makes

module _ {K V : Type 0} (items : List (K × V)) (k : K) (v : V) where
  pub tree_map_added : (cmp : K → K → Ordering) (m n : BTreeMap K V) → IsTreeMapOf cmp items m
      → tree_map.Updates cmp m n k (Some v) → tree_map.IsOrdered cmp n → IsTreeMapOf cmp (items ++ (k, v) ∷ []) n
  tree_map_added cmp m n h updates ordered = (
    one_more_value items (k, v) (tree_map.get cmp m) (tree_map.get cmp n) h.0 updates.0,
    ordered,
  )

  module _ {H : Type 0} (eq : K → K → Bool) (m n : HashMap K V H) where
    pub hash_map_added : IsHashMapOf eq items m → hash_map.Updates eq m n k (Some v) → hash_map.IsUnique eq n
        → IsHashMapOf eq (items ++ (k, v) ∷ []) n
    hash_map_added h updates unique = (
      one_more_value items (k, v) (hash_map.get eq m) (hash_map.get eq n) h.0 updates.0,
      unique,
    )

    pub index_map_added : IsEquivalence eq → IsIndexMapOf eq items m → hash_map.Updates eq m n k (Some v)
        → hash_map.IsUnique eq n → n.entries ≡ insert_entry eq m.entries k v → IsIndexMapOf eq (items ++ (k, v) ∷ []) n
    index_map_added laws h updates unique entries = (
      hash_map_added h.0 updates unique,
      subst (λ ks. AreFirsts eq ks (hash_map.keys n)) (sym (map-append (λ (e : K × V). e.0) items ((k, v) ∷ [])))
          (subst (AreFirsts eq (keys_of items ++ k ∷ [])) (sym new_keys)
          (one_more_first eq (keys_of items) (hash_map.keys m) k (first_keys_held laws items m h.0.0) h.1)),
    ) where
      new_keys : hash_map.keys n ≡ insert_key eq (hash_map.keys m) k
      new_keys = ap keys_of entries ∙ insert_entry_keys eq m.entries k v

pub index_set_added : {T H : Type 0} {eq : T → T → Bool} → IsEquivalence eq → (items : List T) (x : T)
    (s n : HashSet T H) → IsIndexSetOf eq items s → hash_set.Updates eq s n x true
    → hash_set.IsUnique eq n → n.keys ≡ insert_key eq s.keys x → IsIndexSetOf eq (items ++ x ∷ []) n
index_set_added {eq = eq} laws items x s n h updates unique keys = (
  (one_more_held laws items x (hash_set.contains eq s) (hash_set.contains eq n) h.0.0 updates.0, unique),
  subst (AreFirsts eq (items ++ x ∷ [])) (sym keys)
      (one_more_first eq items s.keys x (firsts_held laws items s h.0.0) h.1),
)
