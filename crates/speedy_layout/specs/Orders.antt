-- What holds of lists that ascend, and of items in the order in which they first occur in another list.
use Rattle.std.specs.Prelude.{◌≡◌, List, [], ◌∷◌, ◌++◌, ◌⊎◌, refl}
use Rattle.std.proofs.Common.{sym, ◌∙◌, ap, subst, inl, inr}
use Rattle.std.proofs.lemmas.List.{append_assoc, append-nil}
use Rattle.speedy_layout.specs.Members.{IsIn, AreDistinct, Ascends, ComesFirst, InFirstOrder, IsIn-middle}

-- of two, one at most is less than the other; so nothing is less than itself
abbrev pub IsAsymmetric : {X : Type 0} → (X → X → Type 0) → Type 0
IsAsymmetric {X = X} less = (x y : X) → less x y → less y x → ⊥

-- ---- ascending lists

module _ {X : Type 0} {less : X → X → Type 0} (order : IsAsymmetric less) where
  -- an ascending list has no item twice
  pub Ascends-distinct : (xs : List X) → Ascends less xs → AreDistinct xs
  Ascends-distinct [] h = tt
  Ascends-distinct (x ∷ xs) h = (λ k. order x x (h.0 x k) (h.0 x k), Ascends-distinct xs h.1)

  -- ascending lists of the same items are the same
  pub same_ascending : (xs ys : List X) → Ascends less xs → Ascends less ys → ((x : X) → IsIn x xs → IsIn x ys)
      → ((x : X) → IsIn x ys → IsIn x xs) → xs ≡ ys
  same_ascending [] [] h k there suffix = refl
  same_ascending [] (y ∷ ys) h k there suffix = absurd (suffix y (inl refl))
  same_ascending (x ∷ xs) [] h k there suffix = absurd (there x (inl refl))
  same_ascending (x ∷ xs) (y ∷ ys) h k there suffix =
      let first : x ≡ y =
      elim (there x (inl refl)) [
        | inl e ↦ e
        | inr s ↦ elim (suffix y (inl refl)) [ inl e ↦ sym e | inr t ↦ absurd (order x y (h.0 y t) (k.0 x s)) ]
      ]
      in
      let more =
      same_ascending xs ys h.1 k.1
      (λ z s. elim (there z (inr s)) [
        | inl e
            ↦ absurd (let l = subst (less x) (e ∙ sym first) (h.0 z s) in order x x l l)
        | inr t ↦ t
      ])
      (λ z s. elim (suffix z (inr s)) [
        | inl e ↦ absurd (let l = subst (less y) (e ∙ first) (k.0 z s) in order y y l l)
        | inr t ↦ t
      ])
      in
      cc

-- ---- the order of first occurrences

module _ {X : Type 0} where
  -- a list has its own items in the order of their first occurrences
  pub own_first_order : (xs : List X) → InFirstOrder xs xs
  own_first_order xs = λ x at. record { at = at; others = λ y h. h }

  -- what stands between others of distinct items stands not before itself
  absent_before : (x : X) (earlier later : List X) → AreDistinct (earlier ++ x ∷ later) → IsIn x earlier → ⊥
  absent_before x [] later d h = h
  absent_before x (y ∷ earlier) later d (inl e) =
      d.0 (subst (λ z. IsIn z (earlier ++ x ∷ later)) e (IsIn-middle x earlier later))
  absent_before x (y ∷ earlier) later d (inr h) = absent_before x earlier later d.1 h

  -- of two items of one list either stands before the other, or they stand at one place
  which_first : (x y : X) (before after prefix suffix : List X) → before ++ x ∷ after ≡ prefix ++ y ∷ suffix
      → (x ≡ y) ⊎ (IsIn x prefix ⊎ IsIn y before)
  which_first x y [] after [] suffix e = inl (cc)
  which_first x y [] after (z ∷ prefix) suffix e = inr (inl (inl (cc)))
  which_first x y (z ∷ before) after [] suffix e = inr (inr (inl (cc)))
  which_first x y (z ∷ before) after (w ∷ prefix) suffix e =
      let rest : before ++ x ∷ after ≡ prefix ++ y ∷ suffix = cc in
      elim (which_first x y before after prefix suffix rest) [
        | inl h ↦ inl h
        | inr h ↦ elim h [ inl k ↦ inr (inl (inr k)) | inr k ↦ inr (inr (inr k)) ]
      ]

  same_next : (x y : X) (earlier items : List X) → (IsIn x earlier → ⊥) → (IsIn y earlier → ⊥)
      → ComesFirst IsIn x earlier items → ComesFirst IsIn y earlier items → x ≡ y
  same_next x y earlier items p q h k =
      elim (which_first x y h.at.before h.at.after k.at.before k.at.after (sym h.at.whole_is ∙ k.at.whole_is)) [
        | inl e ↦ e
        | inr r ↦ elim r [ inl s ↦ absurd (p (k.others x s)) | inr s ↦ absurd (q (h.others y s)) ]
      ]

  -- the same after the same beginning
  same_later : (items earlier xs ys : List X) → AreDistinct (earlier ++ xs) → AreDistinct (earlier ++ ys)
      → ((x : X) → IsIn x (earlier ++ xs) → IsIn x (earlier ++ ys))
      → ((x : X) → IsIn x (earlier ++ ys) → IsIn x (earlier ++ xs))
      → InFirstOrder items (earlier ++ xs) → InFirstOrder items (earlier ++ ys) → xs ≡ ys
  same_later items earlier [] [] d e there suffix h k = refl
  same_later items earlier [] (y ∷ ys) d e there suffix h k =
      absurd (absent_before y earlier ys e (subst (IsIn y) (append-nil earlier) (suffix y (IsIn-middle y earlier ys))))
  same_later items earlier (x ∷ xs) [] d e there suffix h k =
      absurd (absent_before x earlier xs d (subst (IsIn x) (append-nil earlier) (there x (IsIn-middle x earlier xs))))
  same_later items earlier (x ∷ xs) (y ∷ ys) d e there suffix h k =
      let first : x ≡ y =
      same_next x y earlier items (absent_before x earlier xs d) (absent_before y earlier ys e)
      (h x (record { before = earlier; after = xs; whole_is = refl }))
      (k y (record { before = earlier; after = ys; whole_is = refl }))
      in
      let left : earlier ++ x ∷ xs ≡ (earlier ++ x ∷ []) ++ xs = sym (append_assoc earlier (x ∷ []) xs) in
      let right : earlier ++ y ∷ ys ≡ (earlier ++ x ∷ []) ++ ys =
      ap (λ z. earlier ++ z ∷ ys) (sym first) ∙ sym (append_assoc earlier (x ∷ []) ys) in
      let more : xs ≡ ys =
      same_later items (earlier ++ x ∷ []) xs ys (subst AreDistinct left d) (subst AreDistinct right e)
      (λ z s. subst (IsIn z) right (there z (subst (IsIn z) (sym left) s)))
      (λ z s. subst (IsIn z) left (suffix z (subst (IsIn z) (sym right) s)))
      (subst (InFirstOrder items) left h)
      (subst (InFirstOrder items) right k)
      in
      cc

  -- lists of the same distinct items in the order of their first occurrences are the same
  pub same_first_order : (items xs ys : List X) → AreDistinct xs → AreDistinct ys → ((x : X) → IsIn x xs → IsIn x ys)
      → ((x : X) → IsIn x ys → IsIn x xs) → InFirstOrder items xs → InFirstOrder items ys → xs ≡ ys
  same_first_order items xs ys = same_later items [] xs ys
