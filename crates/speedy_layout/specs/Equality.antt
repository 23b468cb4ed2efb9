-- Equality that holds exactly where the same is seen.
use Rattle.std.specs.Prelude.{◌≡◌, ℕ, ◌/◌, ◌%◌, List, [], ◌∷◌, map, Bool, true, false, ◌&&◌, IsTrue, nat_eq, ◌↔◌, ◌⊎◌}
use Rattle.std.specs.Prelude.{get_or, drop, Some, None, Result, Ok, Err, refl}
use Rattle.std.proofs.Common.{sym, ◌∙◌, ap, ap₂, subst, arith, inl, inr, true≢false}
use Rattle.std.specs.Option.{option_map, option_eq, unwrap_or}
use Rattle.std.specs.Result.{result_map_both, result_eq}
use Rattle.std.specs.Cmp.Lexicographic.{pointwise, bytes_decides}
use Rattle.std.specs.Net.Addr.{octets_of}
use Rattle.std.specs.declared.net.ipv4_addr.Ipv4Addr.{Ipv4Addr}
use Rattle.std.specs.declared.net.ipv6_addr.Ipv6Addr.{Ipv6Addr}
use Rattle.std.specs.declared.net.ip_addr.IpAddr.{IpAddr}
use Rattle.std.specs.declared.net.ip_addr.IpAddr.TheVariants.{V4, V6}
use Rattle.speedy_base.specs.declared.endianness.Endianness.{Endianness}
use Rattle.speedy_base.specs.declared.endianness.Endianness.TheVariants.{LittleEndian, BigEndian}
use Rattle.speedy_layout.specs.Addresses.{ip_octets}

-- the answer is yes exactly where the two are the same
abbrev pub Tells : {V : Type 0} → Bool → V → V → Type 0
Tells answer v w = IsTrue answer ↔ (v ≡ w)

-- values are equal exactly where the same is seen of them
abbrev pub TellsApart : {A V : Type 0} → (A → A → Bool) → (A → V) → Type 0
TellsApart eq seen = (x y : _) → Tells (eq x y) (seen x) (seen y)

-- ---- parts, compared one after another

-- The answer on parts, given the answer on those before them. A tuple's equality takes its first parts together, and
-- what is seen of it its last ones.
pub record TellsAfter {V : Type 0} (answer : Bool → Bool) (v w : V) : Type 0 where
  pub refused : answer false ≡ false
  pub tells : Tells (answer true) v w

-- the last part
pub last_part : {V : Type 0} {b : Bool} {v w : V} → Tells b v w → TellsAfter (λ before. before && b) v w
last_part t = record { refused = refl; tells = t }

both_so : (b : Bool) (answer : Bool → Bool) → answer false ≡ false → IsTrue (answer b) → IsTrue b × IsTrue (answer true)
both_so true answer refused h = (refl, h)
both_so false answer refused h = absurd (true≢false (sym h ∙ refused))

-- the first part, and those after it
pub first_part : {U V : Type 0} {b : Bool} {answer : Bool → Bool} {t u : U} {v w : V}
    → Tells b t u → TellsAfter answer v w
    → let one : U × V = (t, v) in let other : U × V = (u, w) in Tells (answer b) one other
first_part {U} {V} {b = b} {answer = answer} part others = (
  λ h. let both = both_so b answer others.refused h in
      ap₂ (λ (x : U) (y : V). let r : U × V = (x, y) in r) (part.0 both.0) (others.tells.0 both.1),
  λ e. subst (λ (a : Bool). IsTrue (answer a)) (sym (part.1 (ap (λ (p : U × V). p.0) e)))
      (others.tells.1 (ap (λ (p : U × V). p.1) e)),
)

-- a part between
pub next_part : {U V : Type 0} {b : Bool} {answer : Bool → Bool} {t u : U} {v w : V}
    → Tells b t u → TellsAfter answer v w
    → let one : U × V = (t, v) in let other : U × V = (u, w) in TellsAfter (λ before. answer (before && b)) one other
next_part part others = record { refused = others.refused; tells = first_part part others }

-- ---- no parts

pub unit_tells : TellsApart (λ (x y : Unit {0}). true) (λ x. x)
unit_tells x y = (λ h. refl, λ e. refl)

pub order_tells : (eq : Endianness → Endianness → Bool) → IsTrue (eq LittleEndian LittleEndian)
    → IsTrue (eq BigEndian BigEndian)
    → eq LittleEndian BigEndian ≡ false → eq BigEndian LittleEndian ≡ false → TellsApart eq (λ x. x)
order_tells eq l b lb bl LittleEndian LittleEndian = (λ h. refl, λ e. l)
order_tells eq l b lb bl BigEndian BigEndian = (λ h. refl, λ e. b)
order_tells eq l b lb bl LittleEndian BigEndian = (λ h. absurd (true≢false (sym h ∙ lb)), λ e. absurd (cc))
order_tells eq l b lb bl BigEndian LittleEndian = (λ h. absurd (true≢false (sym h ∙ bl)), λ e. absurd (cc))

-- ---- values of one kind or another

abbrev ok_or_this : {V W : Type 0} → V → Result V W → V
ok_or_this v (Ok w) = w
ok_or_this v (Err e) = v

abbrev err_or_this : {V W : Type 0} → W → Result V W → W
err_or_this v (Ok w) = v
err_or_this v (Err e) = e

abbrev left_or : {V W : Type 0} → V → V ⊎ W → V
left_or v (inl w) = w
left_or v (inr w) = v

abbrev right_or : {V W : Type 0} → W → V ⊎ W → W
right_or v (inl w) = v
right_or v (inr w) = w

ok_same : {V W : Type 0} {v w : V} → let one : Result V W = Ok v in let other : Result V W = Ok w in one ≡ other → v ≡ w
ok_same {V} {v = v} e = ap (λ r. ok_or_this v r) e

err_same : {V W : Type 0} {v w : W} → let one : Result V W = Err v in
    let other : Result V W = Err w in
    one ≡ other → v ≡ w
err_same {v = v} e = ap (λ r. err_or_this v r) e

inl_same : {V W : Type 0} {v w : V} → let one : V ⊎ W = inl v in let other : V ⊎ W = inl w in one ≡ other → v ≡ w
inl_same {v = v} e = ap (λ s. left_or v s) e

inr_same : {V W : Type 0} {v w : W} → let one : V ⊎ W = inr v in let other : V ⊎ W = inr w in one ≡ other → v ≡ w
inr_same {v = v} e = ap (λ s. right_or v s) e

module _ {A V : Type 0} {eq : A → A → Bool} {seen : A → V} (item : TellsApart eq seen) where
  pub option_tells : TellsApart (option_eq eq) (option_map seen)
  option_tells None None = (λ h. refl, λ e. refl)
  option_tells None (Some y) = (λ h. absurd (true≢false (sym h)), λ e. absurd (cc))
  option_tells (Some x) None = (λ h. absurd (true≢false (sym h)), λ e. absurd (cc))
  option_tells (Some x) (Some y) = (λ h. ap Some ((item x y).0 h), λ e. (item x y).1 (ap (λ p. unwrap_or p (seen x)) e))

  pub list_tells : (xs ys : List A) → Tells (pointwise eq xs ys) (map seen xs) (map seen ys)
  list_tells [] [] = (λ h. refl, λ e. refl)
  list_tells [] (y ∷ ys) = (λ h. absurd (true≢false (sym h)), λ e. absurd (cc))
  list_tells (x ∷ xs) [] = (λ h. absurd (true≢false (sym h)), λ e. absurd (cc))
  list_tells (x ∷ xs) (y ∷ ys) =
      let both = first_part (item x y) (last_part (list_tells xs ys)) in (
        λ h. ap (λ (p : V × List V). p.0 ∷ p.1) (both.0 h),
        λ e. both.1 (ap₂ (λ (v : V) (vs : List V). let r : V × List V = (v, vs) in r)
            (ap (λ vs. get_or vs 0 (seen x)) e) (ap (λ vs. drop 1 vs) e)),
      )

pub result_tells : {A B V W : Type 0} {eq : A → A → Bool} {eq_err : B → B → Bool} {seen : A → V} {seen_err : B → W}
    → TellsApart eq seen
    → TellsApart eq_err seen_err → TellsApart (result_eq eq eq_err) (result_map_both seen seen_err)
result_tells item err (Ok x) (Ok y) = (λ h. ap Ok ((item x y).0 h), λ e. (item x y).1 (ok_same e))
result_tells item err (Ok x) (Err y) = (λ h. absurd (true≢false (sym h)), λ e. absurd (cc))
result_tells item err (Err x) (Ok y) = (λ h. absurd (true≢false (sym h)), λ e. absurd (cc))
result_tells item err (Err x) (Err y) = (λ h. ap Err ((err x y).0 h), λ e. (err x y).1 (err_same e))

-- ---- addresses

-- segments are determined by their octets
one_segments : (xs ys : List ℕ) → octets_of xs ≡ octets_of ys → xs ≡ ys
one_segments [] [] e = refl
one_segments [] (y ∷ ys) e = absurd (cc)
one_segments (x ∷ xs) [] e = absurd (cc)
one_segments (x ∷ xs) (y ∷ ys) e =
    let high : x / 256 ≡ y / 256 = ap (λ vs. get_or vs 0 0) e in
    let low : x % 256 ≡ y % 256 = ap (λ vs. get_or vs 1 0) e in
    let same : x ≡ y = omega arith in
    ap₂ ◌∷◌ same (one_segments xs ys (ap (λ vs. drop 2 vs) e))

pub segments_tell : (xs ys : List ℕ) → Tells (pointwise nat_eq xs ys) (octets_of xs) (octets_of ys)
segments_tell xs ys =
    let same = bytes_decides xs ys in
    (λ h. ap octets_of (same.0 h), λ e. same.1 (one_segments xs ys e))

pub ip_tells : (eq : IpAddr → IpAddr → Bool)
    → ((a b : Ipv4Addr) → eq (V4 a) (V4 b) ≡ pointwise nat_eq a.octets b.octets)
    → ((a b : Ipv6Addr) → eq (V6 a) (V6 b) ≡ pointwise nat_eq a.segments b.segments)
    → ((a : Ipv4Addr) (b : Ipv6Addr) → eq (V4 a) (V6 b) ≡ false)
    → ((a : Ipv6Addr) (b : Ipv4Addr) → eq (V6 a) (V4 b) ≡ false)
    → TellsApart eq ip_octets
ip_tells eq short long s l (V4 a) (V4 b) =
    let same = bytes_decides a.octets b.octets in
    (λ h. ap inl (same.0 (sym (short a b) ∙ h)), λ e. short a b ∙ same.1 (inl_same e))
ip_tells eq short long s l (V6 a) (V6 b) =
    let same = segments_tell a.segments b.segments in
    (λ h. ap inr (same.0 (sym (long a b) ∙ h)), λ e. long a b ∙ same.1 (inr_same e))
ip_tells eq short long s l (V4 a) (V6 b) = (λ h. absurd (true≢false (sym h ∙ s a b)), λ e. absurd (cc))
ip_tells eq short long s l (V6 a) (V4 b) = (λ h. absurd (true≢false (sym h ∙ l a b)), λ e. absurd (cc))
