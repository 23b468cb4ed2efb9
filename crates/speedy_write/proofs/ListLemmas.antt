-- Items are written one after the other.
use Rattle.std.specs.Prelude.{◌≡◌, ℕ, suc, ◌+◌, ◌<◌, List, [], ◌∷◌, ◌++◌, length, map, take, drop, Result, Ok, Err}
use Rattle.std.specs.Prelude.{IsErrAnd, refl}
use Rattle.std.proofs.Common.{sym, ◌∙◌, ap, ap₂, subst, arith, inl, inr}
use Rattle.std.proofs.Math.ListN.{get_or}
use Rattle.std.proofs.Math.Seq.{drop-cons}
use Rattle.std.proofs.lemmas.List.{append_assoc, append-nil, length-map, map-append, map-id, take_more}
use Rattle.std.proofs.lemmas.List.{take-append-drop}
use Rattle.speedy_base.specs.declared.error.Error.{Error}
use Rattle.speedy_base.specs.declared.endianness.Endianness.{Endianness}
use Rattle.speedy_base.specs.Digits.{AreBytes}
use Rattle.speedy_base.specs.Error.{passed_on}
use Rattle.speedy_base.specs.Mode.{Mode}
use Rattle.speedy_layout.specs.Format.{Format, Parts, Each, Parts-joined}
use Rattle.speedy_layout.specs.Laws.{Laws}
use Rattle.speedy_layout.specs.Lists.{each_append, repeat, repeat_laws}
use Rattle.speedy_layout.specs.Numbers.{unsigned_number, unsigned_number_laws}
use Rattle.speedy_layout.specs.Sequences.{sequence, Parts-as}
use Rattle.speedy_layout.specs.Texts.{each_byte}
use Rattle.speedy_layout.specs.Tuples.{pair}
use Rattle.speedy_write.specs.Writing.{WriterState, Writes, WritesEach, WritesBytes}
use Rattle.speedy_write.specs.Sequences.{Kept-same, Kept-after, Put-as, Put-nothing, Put-both, Writes-as, Writes-at}
use Rattle.speedy_write.specs.Sequences.{is_sequence, first_refused, second_written, form_written}

module _ {V : Type 0} (R : V → List ℕ → Type 0) where
  pub Each-append : (xs ys : List V) (b : List ℕ) → Parts (Each R xs) (Each R ys) b → Each R (xs ++ ys) b
  Each-append xs ys b p =
      subst (Each R (xs ++ ys)) (sym p.whole_is) (each_append R xs ys p.prefix p.suffix p.first_is p.second_is)

  pub Each-parts : (xs ys : List V) (b : List ℕ) → Each R (xs ++ ys) b → Parts (Each R xs) (Each R ys) b
  Each-parts [] ys b h = Parts-joined [] b refl h
  Each-parts (x ∷ xs) ys b h =
      let r = Each-parts xs ys h.suffix h.second_is in
      record {
        prefix = h.prefix ++ r.prefix;
        suffix = r.suffix;
        whole_is = h.whole_is ∙ (ap (λ z. h.prefix ++ z) r.whole_is ∙ sym (append_assoc h.prefix r.prefix r.suffix));
        first_is = Parts-joined h.prefix r.prefix h.first_is r.first_is;
        second_is = r.second_is;
      }

  Each-one : (x : V) (b : List ℕ) → R x b → Each R (x ∷ []) b
  Each-one x b h = record { prefix = b; suffix = []; whole_is = sym (append-nil b); first_is = h; second_is = refl }

  Each-is-one : (x : V) (b : List ℕ) → Each R (x ∷ []) b → R x b
  Each-is-one x b h =
      subst (R x) (sym (h.whole_is ∙ (ap (λ z. h.prefix ++ z) h.second_is ∙ append-nil h.prefix))) h.first_is

-- the items as far as the next one, and all of them
pub first_items : {A : Type 0} (items : List A) (i : ℕ) {x : A} → i < length items → x ≡ get_or items i x
    → take (i + 1) items ≡ take i items ++ x ∷ []
first_items items i {x} within is = take_more items i x within ∙ ap (λ y. take i items ++ y ∷ []) (sym is)

all_items : {A : Type 0} (items : List A) (i : ℕ) {x : A} → i < length items → x ≡ get_or items i x
    → take i items ++ x ∷ drop (suc i) items ≡ items
all_items items i {x} within is = ap (λ y. take i items ++ y ∷ drop (suc i) items) is
    ∙ (ap (λ y. take i items ++ y) (sym (drop-cons items i x within)) ∙ take-append-drop i items)

-- no item is written yet
pub no_items_written : {E : Type 0} {gives : Error → E → Type 0} {A V : Type 0} {old : WriterState}
    {appended : List ℕ → Type 0} (F : Mode → Format V) (seen : A → V) → appended []
    → WritesEach gives F seen [] (Ok tt) old old appended
unfolding repeat
no_items_written {old = old} F seen h = record {
  kept = Kept-same old;
  answer = Put-as (λ b k. (refl, k)) (Put-nothing old h);
}

-- one item is written as a list of it is
one_written : {E : Type 0} {gives : Error → E → Type 0} {A V : Type 0} {F : Mode → Format V} {old new : WriterState}
    {appended : List ℕ → Type 0} (seen : A → V) (x : A) {result : Result (Unit {0}) E}
    → Writes gives F (seen x) result old new appended → WritesEach gives F seen (x ∷ []) result old new appended
unfolding repeat
one_written {F = F} {old = old} seen x w =
    Writes-as (λ _ k. k) (λ b k. (refl, Each-one (F old.mode).writes (seen x) b k))
    (λ b k. (b, Each-is-one (F old.mode).writes (seen x) b k.1, refl))
    (λ b k. (b, Each-is-one (F old.mode).encodes (seen x) b k.1)) w

-- items are written after others
module _ {E : Type 0} {gives : Error → E → Type 0} {A V : Type 0} (F : Mode → Format V) {old mid new : WriterState}
    {prefix suffix whole : List ℕ → Type 0} (join : (a b : List ℕ) → prefix a → suffix b → whole (a ++ b))
    (seen : A → V)
    (xs ys : List A) where
  pub more_written : {done : Unit {0}} → WritesEach gives F seen xs (Ok tt) old mid prefix
      → WritesEach gives F seen ys (Ok done) mid new suffix → WritesEach gives F seen (xs ++ ys) (Ok tt) old new whole
  unfolding repeat
  more_written h w =
      let R = (F old.mode).writes in
      let all = Put-as (Each-append R (map seen xs) (map seen ys))
      (Put-both join (Put-as (λ b k. k.1) h.answer) (Put-as (λ b k. k.1) (Writes-at h.kept w).answer)) in
      record {
        kept = Kept-after h.kept w.kept;
        answer = Put-as (λ b k. (
          length-map (xs ++ ys) seen,
          subst (λ (us : List V). Each R us b) (sym (map-append seen xs ys)) k,
        )) all;
      }

-- ---- some items, and others after them

module _ {V : Type 0} (R : V → List ℕ → Type 0) (n : ℕ) (vs more : List V) (b : List ℕ) where
  -- some items, and those after them
  abbrev Two : Type 0
  Two = Parts (λ b. (length vs ≡ n) × Each R vs b) (λ b. (length more ≡ length more) × Each R more b) b

  Two-each : Two → Each R (vs ++ more) b
  Two-each h = Each-append R vs more b (Parts-as (λ s k. k.1) (λ s k. k.1) h)

  Each-two : length vs ≡ n → Each R (vs ++ more) b → Two
  Each-two l h = Parts-as (λ s k. (l, k)) (λ s k. (refl, k)) (Each-parts R vs more b h)

module _ {E V : Type 0} {gives : Error → E → Type 0} {e : E} {old new : WriterState} {appended : List ℕ → Type 0}
    (F : Mode → Format V) (n : ℕ) (vs more : List V) where
  two_refused : Writes gives (λ mode. repeat n (F mode)) vs (Err e) old new appended
      → Writes gives (λ mode. pair (repeat n (F mode)) (repeat (length more) (F mode))) (vs, more) (Err e)
      old new appended
  two_refused w = first_refused is_sequence refl refl w

  -- where the first items are refused, all are
  pub first_items_refused : length vs ≡ n → Writes gives (λ mode. repeat n (F mode)) vs (Err e) old new appended
      → Writes gives (λ mode. repeat (length (vs ++ more)) (F mode)) (vs ++ more) (Err e) old new appended
  unfolding repeat sequence
  first_items_refused l w =
      Writes-as (λ kind k. elim k [ inl y ↦ y | inr y ↦ y.1 ])
      (λ b k. (refl, Two-each (F old.mode).writes n vs more b k))
      (λ b k. (b, Each-two (F old.mode).writes n vs more b l k.1, refl))
      (λ b k. (b, Each-two (F old.mode).encodes n vs more b l k.1)) (two_refused w)

-- some items are written, others after them are refused, and so are all
module _ {E : Type 0} {gives : Error → E → Type 0} {A V : Type 0} {F : Mode → Format V} {old mid new : WriterState}
    {prefix suffix whole : List ℕ → Type 0} (join : (a b : List ℕ) → prefix a → suffix b → whole (a ++ b))
    (seen : A → V)
    (xs ys more : List A) {e : E} where
  both_refused : {least : ℕ} → ((mode : Mode) → Laws mode.strict least (F mode))
      → WritesEach gives F seen xs (Ok tt) old mid prefix → WritesEach gives F seen ys (Err e) mid new suffix
      → let rest : List V = map seen ys ++ map seen more in
      Writes gives (λ mode. pair (repeat (length xs) (F mode)) (repeat (length rest) (F mode)))
      (map seen xs, rest) (Err e) old new whole
  both_refused laws h w =
      second_written is_sequence refl (λ mode. repeat_laws (laws mode) (length xs)) join h
      (first_items_refused F (length ys) (map seen ys) (map seen more) (length-map ys seen) w)

  pub later_items_refused : {least : ℕ} {result : Result (Unit {0}) E}
      → ((mode : Mode) → Laws mode.strict least (F mode)) → IsErrAnd result (λ r. r ≡ e)
      → WritesEach gives F seen xs (Ok tt) old mid prefix → WritesEach gives F seen ys (Err e) mid new suffix
      → WritesEach gives F seen (xs ++ (ys ++ more)) result old new whole
  unfolding repeat sequence
  later_items_refused {result = result} laws passed h w =
      let n = length xs in
      let vs = map seen xs in
      let rest = map seen ys ++ map seen more in
      let all = map seen (xs ++ (ys ++ more)) in
      let R = (F old.mode).writes in
      let parts : all ≡ vs ++ rest = map-append seen xs (ys ++ more) ∙ ap (λ us. vs ++ us) (map-append seen ys more) in
      let turned : (S : V → List ℕ → Type 0) (b : List ℕ) → Each S all b → Two S n vs rest b =
      λ S b k. Each-two S n vs rest b (length-map xs seen) (subst (λ (us : List V). Each S us b) parts k) in
      let refused : WritesEach gives F seen (xs ++ (ys ++ more)) (Err e) old new whole =
      Writes-as (λ kind k. elim k [ inl y ↦ y | inr y ↦ y.1 ])
      (λ b k. (
        length-map (xs ++ (ys ++ more)) seen,
        subst (λ (us : List V). Each R us b) (sym parts) (Two-each R n vs rest b k),
      ))
      (λ b k. (b, turned R b k.1, refl)) (λ b k. (b, turned (F old.mode).encodes b k.1)) (both_refused laws h w) in
      subst (λ (r : Result (Unit {0}) E). WritesEach gives F seen (xs ++ (ys ++ more)) r old new whole)
      (passed_on result e passed) refused

module _ {E : Type 0} {gives : Error → E → Type 0} {A V : Type 0} {F : Mode → Format V} {old mid new : WriterState}
    {prefix suffix whole : List ℕ → Type 0} (join : (a b : List ℕ) → prefix a → suffix b → whole (a ++ b))
    (seen : A → V) (xs : List A) (x : A) where
  -- one more item is written
  pub next_written : {done : Unit {0}} → WritesEach gives F seen xs (Ok tt) old mid prefix
      → Writes gives F (seen x) (Ok done) mid new suffix → WritesEach gives F seen (xs ++ x ∷ []) (Ok tt) old new whole
  next_written h w = more_written F join seen xs (x ∷ []) h (one_written seen x w)

  -- where it is refused, the items before it, that one and others after it are
  pub next_refused : {least : ℕ} {e : E} {result : Result (Unit {0}) E}
      → ((mode : Mode) → Laws mode.strict least (F mode)) → IsErrAnd result (λ r. r ≡ e)
      → WritesEach gives F seen xs (Ok tt) old mid prefix → Writes gives F (seen x) (Err e) mid new suffix
      → (ys : List A) → WritesEach gives F seen (xs ++ x ∷ ys) result old new whole
  next_refused laws passed h w ys =
      later_items_refused join seen xs (x ∷ []) ys laws passed h (one_written seen x w)

-- the same of the items of a list that stand before an index, and of the one that stands there
module _ {E : Type 0} {gives : Error → E → Type 0} {A V : Type 0} {F : Mode → Format V} {x : A}
    {old mid new : WriterState} {prefix suffix whole : List ℕ → Type 0}
    (join : (a b : List ℕ) → prefix a → suffix b → whole (a ++ b)) (seen : A → V) (items : List A) (i : ℕ)
    (within : i < length items) (is : x ≡ get_or items i x) where
  pub one_more_written : {done : Unit {0}} → WritesEach gives F seen (take i items) (Ok tt) old mid prefix
      → Writes gives F (seen x) (Ok done) mid new suffix
      → WritesEach gives F seen (take (i + 1) items) (Ok tt) old new whole
  one_more_written h w = subst (λ (us : List A). WritesEach gives F seen us (Ok tt) old new whole)
      (sym (first_items items i within is)) (next_written join seen (take i items) x h w)

  pub items_refused : {least : ℕ} {e : E} {result : Result (Unit {0}) E}
      → ((mode : Mode) → Laws mode.strict least (F mode)) → IsErrAnd result (λ r. r ≡ e)
      → WritesEach gives F seen (take i items) (Ok tt) old mid prefix → Writes gives F (seen x) (Err e) mid new suffix
      → WritesEach gives F seen items result old new whole
  items_refused {result = result} laws passed h w =
      subst (λ (us : List A). WritesEach gives F seen us result old new whole) (all_items items i within is)
      (next_refused join seen (take i items) x laws passed h w (drop (suc i) items))

-- ---- items that are put at once, and the next one

-- no item is left behind those before
pub none_left : {A : Type 0} {items : List A} (xs more : List A) → length more ≡ 0 → items ≡ xs ++ more → items ≡ xs
none_left xs [] none is = is ∙ append-nil xs
none_left xs (x ∷ more) none is = absurd (omega (arith, none))

-- those behind the ones that were put
pub put_off : {A : Type 0} {items more : List A} (rest done : List A) (n : ℕ) → more ≡ drop n rest
    → items ≡ done ++ rest → items ≡ (done ++ take n rest) ++ more
put_off rest done n suffix is =
    is ∙ (ap (λ us. done ++ us) (sym (take-append-drop n rest) ∙ ap (λ us. take n rest ++ us) (sym suffix))
    ∙ sym (append_assoc done (take n rest) _))

-- a list that is said in other words is written
pub listed_written : {E A V : Type 0} {gives : Error → E → Type 0} (F : Mode → Format V) (seen : A → V)
    {items us : List A} {result : Result (Unit {0}) E} {old new : WriterState} {appended : List ℕ → Type 0}
    → items ≡ us → WritesEach gives F seen us result old new appended
    → WritesEach gives F seen items result old new appended
listed_written {gives = gives} F seen {result = result} {old = old} {new = new} {appended = appended} is w =
    subst (λ vs. WritesEach gives F seen vs result old new appended) (sym is) w

-- ---- values, by chunks of their bytes

-- a chunk is cut off the rest
pub cut_off : {A : Type 0} {items some more : List A} (rest done : List A) (n : ℕ) → some ≡ take n rest
    → more ≡ drop n rest → items ≡ done ++ rest → items ≡ done ++ (some ++ more)
cut_off rest done n prefix suffix is = is ∙ ap (λ us. done ++ us)
    (sym (ap₂ ◌++◌ prefix suffix ∙ take-append-drop n rest))

module _ {E A V : Type 0} {gives : Error → E → Type 0} {F : Mode → Format V} {least : ℕ} {mid new : WriterState}
    {suffix : List ℕ → Type 0} {order : Endianness}
    (laws : (mode : Mode) → Laws mode.strict least (F mode)) (seen : A → V) (some : List A) {b : List ℕ}
    (same : order ≡ mid.mode.order)
    (put : (mode : Mode) → order ≡ mode.order → Each (F mode).writes (map seen some) b) where
  -- the bytes of values are written as they are
  pub values_are_written : {result : Result (Unit {0}) E} → WritesBytes gives b result mid new suffix
      → WritesEach gives F seen some result mid new suffix
  unfolding repeat
  values_are_written w =
      form_written (λ e. repeat_laws (laws e) (length some)) (length-map some seen, put mid.mode same) w

  module _ {old : WriterState} {prefix whole : List ℕ → Type 0}
      (join : (a b : List ℕ) → prefix a → suffix b → whole (a ++ b)) (done : List A)
      (h : WritesEach gives F seen done (Ok tt) old mid prefix) where
    -- one chunk more is written
    pub values_written : {x : Unit {0}} → WritesBytes gives b (Ok x) mid new suffix
        → WritesEach gives F seen (done ++ some) (Ok tt) old new whole
    values_written w = more_written F join seen done some h (values_are_written w)

    -- where one is refused, all are
    pub values_refused : {e : E} {result : Result (Unit {0}) E} {items : List A} (more : List A)
        → items ≡ done ++ (some ++ more) → IsErrAnd result (λ r. r ≡ e) → WritesBytes gives b (Err e) mid new suffix
        → WritesEach gives F seen items result old new whole
    values_refused {result = result} more is passed w =
        subst (λ (us : List A). WritesEach gives F seen us result old new whole) (sym is)
        (later_items_refused join seen done some more laws passed h (values_are_written w))

-- bytes are written at once as they are item by item
pub byte_items_written : {E : Type 0} {gives : Error → E → Type 0} {items : List ℕ} {result : Result (Unit {0}) E}
    {old new : WriterState} {appended : List ℕ → Type 0} → AreBytes items
    → WritesBytes gives items result old new appended
    → WritesEach gives (unsigned_number 1) (λ n. n) items result old new appended
unfolding repeat unsigned_number
byte_items_written {items = items} {old = old} h w =
    form_written (λ e. repeat_laws (unsigned_number_laws 1 e) (length items)) (
      length-map items (λ n. n),
      subst (λ (vs : List ℕ). Each (unsigned_number 1 old.mode).writes vs items) (sym (map-id items))
          (each_byte old.mode.order items h),
    ) w
