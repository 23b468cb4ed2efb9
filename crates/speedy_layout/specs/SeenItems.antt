-- What is seen of keys, among others and in order.
use Rattle.std.specs.Prelude.{◌≡◌, List, [], ◌∷◌, map, Bool, false, IsTrue, ◌↔◌, refl}
use Rattle.std.proofs.Common.{sym, ◌∙◌, ap, subst, inl, inr}
use Rattle.std.specs.List.{AllByRecursion, IsDistinct}
use Rattle.std.specs.List.Sorted.{IsStrictlySortedBy}
use Rattle.std.specs.declared.cmp.Ordering.{Ordering}
use Rattle.std.specs.declared.cmp.Ordering.TheVariants.{Less, Equal, Greater}
use Rattle.std.specs.Ordering.{eq_by_cmp, is_lt}
use Rattle.std.specs.Cmp.{IsTotalOrder, Equal-is, alike_right}
use Rattle.speedy_layout.specs.Equality.{TellsApart}
use Rattle.speedy_layout.specs.Members.{IsIn, AreDistinct, Ascends}
use Rattle.speedy_layout.specs.Orders.{IsAsymmetric}

-- each is what is seen of some value
abbrev pub AreSeen : {T A : Type 0} → (T → A) → List A → Type 0
AreSeen {T = T} {A = A} seen items = (a : A) → IsIn a items → (x : T) × (seen x ≡ a)

module _ {T A : Type 0} (seen : T → A) where
  -- what is seen among items is seen of one
  pub item_seen : (a : A) (xs : List T) → IsIn a (map seen xs) → (x : T) × (a ≡ seen x) × IsIn x xs
  item_seen a [] h = absurd h
  item_seen a (x ∷ xs) (inl h) = (x, h, inl refl)
  item_seen a (x ∷ xs) (inr h) = let p = item_seen a xs h in (p.0, p.1, inr p.2)

  -- each of them is what is seen of some item
  pub items_are_seen : (xs : List T) → AreSeen seen (map seen xs)
  items_are_seen xs a h = let p = item_seen a xs h in (p.0, sym p.1)

module _ {K A : Type 0} {seen : K → A} {eq : K → K → Bool} (same_key : TellsApart eq seen) where
  pub differs : (x y : K) → eq x y ≡ false → seen x ≡ seen y → ⊥
  differs x y is h = absurd (let e = (same_key x y).1 h in (cc))

  -- keys of which no two are equal are seen to be distinct
  pub unique_seen : (xs : List K) → IsDistinct eq xs → AreDistinct (map seen xs)
  unfolding IsDistinct
  unique_seen [] h = tt
  unique_seen (x ∷ xs) h = (λ s. absent xs h.0 s, unique_seen xs h.1) where
    absent : (ys : List K) → AllByRecursion (λ y. eq x y ≡ false) ys → IsIn (seen x) (map seen ys) → ⊥
    absent [] h s = s
    absent (y ∷ ys) h (inl s) = differs x y h.0 s
    absent (y ∷ ys) h (inr s) = absent ys h.1 s

-- ---- the order of keys

-- what is seen of one key and of another, which is greater; no keys that are seen so compare the other way
pub record IsLess {K S : Type 0} (seen : K → S) (cmp : K → K → Ordering) (a b : S) : Type 0 where
  pub lower : K
  pub higher : K
  pub lower_is : seen lower ≡ a
  pub higher_is : seen higher ≡ b
  pub compared : cmp lower higher ≡ Less
  pub one_way : (x y : K) → seen x ≡ a → seen y ≡ b → cmp y x ≡ Less → ⊥

-- of two, one at most is seen to be less
pub less_is_asymmetric : {K S : Type 0} (seen : K → S) (cmp : K → K → Ordering) → IsAsymmetric (IsLess seen cmp)
less_is_asymmetric seen cmp a b h k = h.one_way k.higher k.lower k.higher_is k.lower_is k.compared

-- the equality by such an order tells apart what the keys' own does
pub cmp_tells_apart : {K S : Type 0} {seen : K → S} {eq : K → K → Bool} (cmp : K → K → Ordering) → TellsApart eq seen
    → ((x y : K) → eq x y ≡ eq_by_cmp cmp x y) → TellsApart (eq_by_cmp cmp) seen
cmp_tells_apart cmp same_key matches_eq x y =
    (λ h. (same_key x y).0 (matches_eq x y ∙ h), λ e. sym (matches_eq x y) ∙ (same_key x y).1 e)

pub lt_is_less : (r : Ordering) → IsTrue (is_lt r) → r ≡ Less
lt_is_less Less h = refl
lt_is_less Equal h = absurd (cc)
lt_is_less Greater h = absurd (cc)

module _ {K S : Type 0} {seen : K → S}
    {cmp : K → K → Ordering} (same_key : TellsApart (eq_by_cmp cmp) seen) (total : IsTotalOrder cmp) where
  -- keys that are seen alike compare alike
  alike : (x y lower higher : K) → seen lower ≡ seen x → seen higher ≡ seen y → cmp lower higher ≡ Less → cmp x y ≡ Less
  alike x y lower higher e f h =
      let low = (Equal-is (cmp lower x)).0 ((same_key lower x).1 e) in
      let high = (Equal-is (cmp higher y)).0 ((same_key higher y).1 f) in
      sym (alike_right total higher y x high) ∙ (sym (total.congr lower x higher low) ∙ h)

  -- keys that compare so are seen so
  seen_less : (x y : K) → cmp x y ≡ Less → IsLess seen cmp (seen x) (seen y)
  seen_less x y h = record {
    lower = x;
    higher = y;
    lower_is = refl;
    higher_is = refl;
    compared = h;
    one_way = λ u v e f k. let suffix = alike y x v u f e k in let other = total.antisymm x y in absurd (cc);
  }

  -- and one key is seen to be less than another exactly where it compares so
  pub less_is_seen : (x y : K) → IsTrue (is_lt (cmp x y)) ↔ IsLess seen cmp (seen x) (seen y)
  less_is_seen x y = (
    λ h. seen_less x y (lt_is_less (cmp x y) h),
    λ h. ap is_lt (alike x y h.lower h.higher h.lower_is h.higher_is h.compared),
  )

  -- keys that ascend are seen to ascend
  pub sorted_ascend : (xs : List K) → IsStrictlySortedBy cmp xs → Ascends (IsLess seen cmp) (map seen xs)
  unfolding IsStrictlySortedBy
  sorted_ascend [] h = tt
  sorted_ascend (x ∷ xs) h = (λ a s. above xs h.0 a s, sorted_ascend xs h.1) where
    above : (ys : List K) → AllByRecursion (λ y. cmp x y ≡ Less) ys → (a : S) → IsIn a (map seen ys)
        → IsLess seen cmp (seen x) a
    above [] l a s = absurd s
    above (y ∷ ys) l a (inl s) = subst (IsLess seen cmp (seen x)) (sym s) (seen_less x y l.0)
    above (y ∷ ys) l a (inr s) = above ys l.1 a s
