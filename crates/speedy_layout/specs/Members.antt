-- Which items a list has and in what order: that they ascend, are distinct, and which pair with a key is the last.
use Rattle.std.specs.Prelude.{◌≡◌, List, [], ◌∷◌, ◌++◌, length, ◌⊎◌, refl}
use Rattle.std.specs.Map.{keys_of}
use Rattle.std.proofs.Common.{sym, ◌∙◌, ap, subst, inl, inr, arith}
use Rattle.std.proofs.lemmas.List.{append_assoc, length-append}

-- x is an item of the list
abbrev pub IsIn : {X : Type 0} → X → List X → Type 0
IsIn x [] = ⊥
IsIn x (y ∷ ys) = (x ≡ y) ⊎ IsIn x ys

-- no item stands twice
abbrev pub AreDistinct : {X : Type 0} → List X → Type 0
AreDistinct [] = Unit {0}
AreDistinct (x ∷ xs) = (IsIn x xs → ⊥) × AreDistinct xs

-- each item is less than those after it
abbrev pub Ascends : {X : Type 0} → (X → X → Type 0) → List X → Type 0
Ascends less [] = Unit {0}
Ascends {X = X} less (x ∷ xs) = ((y : X) → IsIn y xs → less x y) × Ascends less xs

-- the pair is the last one of the list that has its key
abbrev pub IsLast : {K V : Type 0} → K × V → List (K × V) → Type 0
IsLast e [] = ⊥
IsLast e (x ∷ xs) = IsLast e xs ⊎ ((e ≡ x) × (IsIn e.0 (keys_of xs) → ⊥))

-- the list is this item, with others before and after it
pub record Around {X : Type 0} (x : X) (xs : List X) : Type 0 where
  pub before : List X
  pub after : List X
  pub whole_is : xs ≡ before ++ x ∷ after

-- so it stands behind one more
abbrev pub Around-behind : {X : Type 0} {x : X} {xs : List X} (y : X) → Around x xs → Around x (y ∷ xs)
Around-behind y a = record { before = y ∷ a.before; after = a.after; whole_is = ap (λ z. y ∷ z) a.whole_is }

-- some x stands in the items, and each one before it is among the earlier ones, as `has` tells
pub record ComesFirst {X : Type 0} (has : X → List X → Type 0) (x : X) (earlier items : List X) : Type 0 where
  pub at : Around x items
  pub others : (y : X) → IsIn y at.before → has y earlier

-- xs stand in the order of their first occurrences in the items, where `has` tells whether one is among others
abbrev pub InFirstOrderBy : {X : Type 0} → (X → List X → Type 0) → List X → List X → Type 0
InFirstOrderBy {X = X} has items xs = (x : X) (at : Around x xs) → ComesFirst has x at.before items

-- the same, where one is among others that is one of them
abbrev pub InFirstOrder : {X : Type 0} → List X → List X → Type 0
InFirstOrder items xs = InFirstOrderBy IsIn items xs

module _ {X : Type 0} where
  pub IsIn-left : (x : X) (xs ys : List X) → IsIn x xs → IsIn x (xs ++ ys)
  IsIn-left x [] ys h = absurd h
  IsIn-left x (z ∷ xs) ys (inl e) = inl e
  IsIn-left x (z ∷ xs) ys (inr h) = inr (IsIn-left x xs ys h)

  pub IsIn-right : (x : X) (xs ys : List X) → IsIn x ys → IsIn x (xs ++ ys)
  IsIn-right x [] ys h = h
  IsIn-right x (z ∷ xs) ys h = inr (IsIn-right x xs ys h)

  pub IsIn-either : (x : X) (xs ys : List X) → IsIn x (xs ++ ys) → IsIn x xs ⊎ IsIn x ys
  IsIn-either x [] ys h = inr h
  IsIn-either x (z ∷ xs) ys (inl e) = inl (inl e)
  IsIn-either x (z ∷ xs) ys (inr h) = elim (IsIn-either x xs ys h) [ inl k ↦ inl (inr k) | inr k ↦ inr k ]

  -- an item has others around it
  pub IsIn-around : (x : X) (xs : List X) → IsIn x xs → Around x xs
  IsIn-around x [] h = absurd h
  IsIn-around x (y ∷ ys) (inl e) = record { before = []; after = ys; whole_is = ap (λ z. z ∷ ys) (sym e) }
  IsIn-around x (y ∷ ys) (inr h) = Around-behind y (IsIn-around x ys h)

  pub IsIn-middle : (x : X) (xs ys : List X) → IsIn x (xs ++ x ∷ ys)
  IsIn-middle x xs ys = IsIn-right x xs (x ∷ ys) (inl refl)

  -- where an item stands in a list with one more at its end
  pub around_last : (x k : X) (xs before after : List X) → xs ++ k ∷ [] ≡ before ++ x ∷ after
      → ((before ≡ xs) × (x ≡ k))
      ⊎ ((rest : List X) × (xs ≡ before ++ x ∷ rest) × (after ≡ rest ++ k ∷ []))
  around_last x k [] [] after e = inl (refl, cc)
  around_last x k [] (b ∷ before) after e =
      let tails : [] ≡ before ++ x ∷ after = cc in
      let l = ap length tails ∙ length-append before (x ∷ after) in
      absurd (omega arith)
  around_last x k (y ∷ xs) [] after e = inr (xs, let h : y ≡ x = cc in ap (λ z. z ∷ xs) h, cc)
  around_last x k (y ∷ xs) (b ∷ before) after e =
      let heads : y ≡ b = cc in
      let tails : xs ++ k ∷ [] ≡ before ++ x ∷ after = cc in
      elim (around_last x k xs before after tails) [
        | inl h ↦ inl (let t = h.0 in let s : b ∷ before ≡ y ∷ xs = cc in (s, h.1))
        | inr h ↦ inr (h.0, let t = h.1 in let s : y ∷ xs ≡ b ∷ (before ++ x ∷ h.0) = cc in s, h.2)
      ]

  -- what stands around an item of a list stands around it in a longer one
  abbrev pub Around-more : (x : X) (xs more : List X) → Around x xs → Around x (xs ++ more)
  Around-more x xs more at = record {
    before = at.before;
    after = at.after ++ more;
    whole_is = ap (λ l. l ++ more) at.whole_is ∙ append_assoc at.before (x ∷ at.after) more;
  }

  head_same : (x y : X) (xs ys : List X) → x ∷ xs ≡ y ∷ ys → x ≡ y
  head_same x y xs ys h = cc

  tail_same : (x y : X) (xs ys : List X) → x ∷ xs ≡ y ∷ ys → xs ≡ ys
  tail_same x y xs ys h = cc

module _ {K V : Type 0} where
  -- a pair's key is a key
  pub IsIn-key : (e : K × V) (es : List (K × V)) → IsIn e es → IsIn e.0 (keys_of es)
  IsIn-key e [] h = absurd h
  IsIn-key e (f ∷ es) (inl h) = inl (ap (λ (p : K × V). p.0) h)
  IsIn-key e (f ∷ es) (inr h) = inr (IsIn-key e es h)

  -- and a key is one of a pair
  pub IsIn-pair : (k : K) (es : List (K × V)) → IsIn k (keys_of es) → (e : K × V) × (k ≡ e.0) × IsIn e es
  IsIn-pair k [] h = absurd h
  IsIn-pair k (f ∷ es) (inl h) = (f, h, inl refl)
  IsIn-pair k (f ∷ es) (inr h) = let p = IsIn-pair k es h in (p.0, p.1, inr p.2)

  pub IsLast-in : (e : K × V) (es : List (K × V)) → IsLast e es → IsIn e es
  IsLast-in e [] h = absurd h
  IsLast-in e (f ∷ es) (inl h) = inr (IsLast-in e es h)
  IsLast-in e (f ∷ es) (inr h) = inl h.0

  -- where each key stands once, each pair is the last
  pub IsIn-last : (e : K × V) (es : List (K × V)) → AreDistinct (keys_of es) → IsIn e es → IsLast e es
  IsIn-last e [] d h = absurd h
  IsIn-last e (f ∷ es) d (inl h) = inr (h, λ k. d.0 (subst (λ (p : K × V). IsIn p.0 (keys_of es)) h k))
  IsIn-last e (f ∷ es) d (inr h) = inl (IsIn-last e es d.1 h)

  -- and each pair stands once
  pub AreDistinct-keys : (es : List (K × V)) → AreDistinct (keys_of es) → AreDistinct es
  AreDistinct-keys [] d = tt
  AreDistinct-keys (f ∷ es) d = (λ h. d.0 (IsIn-key f es h), AreDistinct-keys es d.1)

  -- lists of the same pairs with the same distinct keys are the same
  pub same_by_keys : (es fs : List (K × V)) → AreDistinct (keys_of es) → keys_of es ≡ keys_of fs
      → ((e : K × V) → IsIn e es → IsIn e fs) → es ≡ fs
  same_by_keys [] [] d same inside = refl
  same_by_keys [] (f ∷ fs) d same inside = absurd (let l = ap length same in omega (arith, l))
  same_by_keys (e ∷ es) [] d same inside = absurd (inside e (inl refl))
  same_by_keys (e ∷ es) (f ∷ fs) d same inside =
      let first : e.0 ≡ f.0 = head_same e.0 f.0 (keys_of es) (keys_of fs) same in
      let more : keys_of es ≡ keys_of fs = tail_same e.0 f.0 (keys_of es) (keys_of fs) same in
      let is : e ≡ f =
      elim (inside e (inl refl)) [
        | inl h ↦ h
        | inr h ↦ absurd (d.0 (subst (λ ks. IsIn e.0 ks) (sym more) (IsIn-key e fs h)))
      ]
      in
      let rest =
      same_by_keys es fs d.1 more
      (λ g h.
      elim (inside g (inr h)) [
        | inl k ↦
            absurd (d.0 (subst (λ x. IsIn x (keys_of es)) (ap (λ (p : K × V). p.0) k ∙ sym first) (IsIn-key g es h)))
        | inr k ↦ k
      ])
      in
      cc
