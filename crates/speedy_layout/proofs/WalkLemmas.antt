-- Iterators that show what is left: what walks give, and how two are compared.
use Rattle.std.specs.Prelude.{◌≡◌, List, [], ◌∷◌, ◌++◌, length, Bool, true, false, ◌&&◌, Option, Some, None}
use Rattle.std.specs.Prelude.{MatchOption, IfSome, refl}
use Rattle.std.proofs.Common.{sym, ◌∙◌, ap, ap₂}
use Rattle.std.proofs.iter.runs.Sources.{from_front, as_is}
use Rattle.std.specs.Cmp.Lexicographic.{pointwise}
use Rattle.std.specs.Iterator.{Yields, YieldsFirst, ComparesItemsByEq}
use Rattle.std.specs.Iterator.Runs.{YieldsInOrder}
use Rattle.std.specs.List.{AllZip}

module _ {S A : Type 0} (rest : S → List A) where
  -- an iterator that shows what is left gives just that, in order
  pub walked_in_order : YieldsInOrder (YieldsFirst rest) rest
  walked_in_order p s =
      as_is p (rest p.from) (from_front (YieldsFirst rest) (λ x. x) rest (λ s t h. ap length h.0) (λ s x t h. h) p s)

  walked_prefix : (xs : List A) (s t : S) → Yields (YieldsFirst rest) s xs t → rest s ≡ xs ++ rest t
  walked_prefix [] s t e = ap rest e
  walked_prefix (x ∷ xs) s t y = y.1 ∙ ap (λ ys. x ∷ ys) (walked_prefix xs y.0 t y.2)

  module _ (eq : A → A → Bool) where
    alike_prefix : (xs ys more others : List A) → AllZip (λ x y. eq x y ≡ true) xs ys
        → pointwise eq (xs ++ more) (ys ++ others) ≡ pointwise eq more others
    alike_prefix [] [] more others h = refl
    alike_prefix [] (y ∷ ys) more others h = absurd h
    alike_prefix (x ∷ xs) [] more others h = absurd h
    alike_prefix (x ∷ xs) (y ∷ ys) more others h =
        ap (λ b. b && pointwise eq (xs ++ more) (ys ++ others)) h.0 ∙ alike_prefix xs ys more others h.1

    alike_ends : (o p : Option A) (s t u v : S) (r : Bool) → YieldsFirst rest s o u → YieldsFirst rest t p v
        → MatchOption o (MatchOption p (r ≡ true) (λ _. r ≡ false)) (λ x. (r ≡ false) × IfSome p (λ y. eq x y ≡ false))
        → r ≡ pointwise eq (rest s) (rest t)
    alike_ends None None s t u v r h k e = e ∙ ap₂ (λ xs ys. pointwise eq xs ys) (sym h.0) (sym k.0)
    alike_ends None (Some y) s t u v r h k e = e ∙ ap₂ (λ xs ys. pointwise eq xs ys) (sym h.0) (sym k)
    alike_ends (Some x) None s t u v r h k e = e.0 ∙ ap₂ (λ xs ys. pointwise eq xs ys) (sym h) (sym k.0)
    alike_ends (Some x) (Some y) s t u v r h k e = e.0
        ∙ (ap (λ b. b && pointwise eq (rest u) (rest v)) (sym e.1) ∙ ap₂ (λ xs ys. pointwise eq xs ys) (sym h) (sym k))

    -- two such iterators are compared as what they show
    pub walked_equal : (s other : S) (r : Bool)
        → ComparesItemsByEq (YieldsFirst rest) (λ s it. it ≡ s) (YieldsFirst rest) s other eq r
        → r ≡ pointwise eq (rest s) (rest other)
    walked_equal s other r h =
        let xs = h.1 in
        let ys = h.2 in
        let mine = h.8 in
        let theirs = h.9 in
        alike_ends h.3 h.4 mine.0 theirs.0 h.5 h.6 r mine.2 theirs.2 h.11
        ∙ sym (alike_prefix xs ys (rest mine.0) (rest theirs.0) h.10)
        ∙ ap₂ (λ vs ws. pointwise eq vs ws) (sym (walked_prefix xs s mine.0 mine.1))
        (sym (walked_prefix ys h.0 theirs.0 theirs.1) ∙ ap rest h.7)
