-- Numbers of a fixed number of bytes, one after another.
use Rattle.std.specs.Prelude.{◌≡◌, ℕ, zero, suc, ◌+◌, ◌-◌, ◌*◌, ◌<◌, ◌≤◌, List, [], ◌∷◌, ◌++◌, length, map, take}
use Rattle.std.specs.Prelude.{refl}
use Rattle.std.proofs.Common.{drop, sym, ◌∙◌, ap, ap₂, subst, subst₂, arith}
use Rattle.std.proofs.Math.ListN.{get_or, set}
use Rattle.std.proofs.lemmas.List.{append-nil, append_assoc, length-append}
use Rattle.std.proofs.lemmas.List.{length-drop, length-take-le, map-append, take_all}
use Rattle.std.proofs.lemmas.List.{take_at, take_more, take_more_set, take-append-drop}
use borrow.Rule.Slice.PartMut.{put_mid, post_of}
use Rattle.speedy_base.specs.declared.endianness.Endianness.{Endianness}
use Rattle.speedy_base.specs.declared.endianness.Endianness.TheVariants.{LittleEndian, BigEndian}
use Rattle.speedy_base.specs.Digits.{AreBytes, number}
use Rattle.speedy_base.specs.DigitsLemmas.{AreBytes-append_parts}
use Rattle.speedy_base.specs.Mode.{Mode}
use Rattle.speedy_layout.specs.FixedNumbers.{Decodes, encoded_in}
use Rattle.speedy_layout.specs.Format.{Format, Each}
use Rattle.speedy_layout.specs.Lists.{each_more}

-- where a number less than all is put, one more has room
pub room_for_one : (width i n : ℕ) → i < n → i * width + width ≤ n * width
room_for_one width i zero l = absurd (omega arith)
room_for_one width zero (suc n) l = omega arith
room_for_one width (suc i) (suc n) l = let less = room_for_one width i n (omega arith) in omega (arith, less)

-- and so what begins there
pub room_ahead : (width at i n size room : ℕ) → i < n → at ≡ i * width → size ≡ width → room ≡ n * width
    → at + size ≤ room
room_ahead width at i n size room l is same all =
    let fits = room_for_one width i n l in
    omega (arith, fits, is, same, all)

take_parts : {X : Type 0} (n m : ℕ) (xs : List X) → take (n + m) xs ≡ take n xs ++ take m (drop n xs)
take_parts zero m xs = let same : 0 + m ≡ m = omega arith in ap (λ k. take k xs) same
take_parts (suc n) zero [] = let same : suc n + 0 ≡ suc n = omega arith in ap (λ k. take k []) same
take_parts (suc n) (suc m) [] = let same : suc n + suc m ≡ suc (n + suc m) = omega arith in ap (λ k. take k []) same
take_parts (suc n) m (x ∷ xs) =
    let same : suc n + m ≡ suc (n + m) = omega arith in
    ap (λ k. take k (x ∷ xs)) same ∙ ap (λ ys. x ∷ ys) (take_parts n m xs)

pub one_more_times : (width i at size : ℕ) → at ≡ i * width → size ≡ width → at + size ≡ (i + 1) * width
one_more_times width i at size is same =
    let next : i + 1 ≡ suc i = omega arith in
    ap₂ ◌+◌ is same
    ∙ (let turned : i * width + width ≡ suc i * width = omega arith in turned ∙ ap (λ (n : ℕ). n * width) (sym next))

-- the parts of bytes are bytes
are_parts : (n : ℕ) (bytes : List ℕ) → AreBytes bytes → AreBytes (take n bytes) × AreBytes (drop n bytes)
are_parts n bytes are =
    AreBytes-append_parts (take n bytes) (drop n bytes) (subst AreBytes (sym (take-append-drop n bytes)) are)

-- what a number is encoded as encodes it, and so do the bytes that it was decoded of
module _ {A V : Type 0} {size : ℕ} (F : Mode → Format V) (seen : A → V) {decoded : Endianness → List ℕ → A}
    (decodes : Decodes size F seen decoded) (order : Endianness) where
  pub encoding_stands : {n : A} (bytes : List ℕ) → length bytes ≡ size → AreBytes bytes → decoded order bytes ≡ n
      → encoded_in F order (seen n) bytes
  encoding_stands bytes sized are is =
      subst (λ (n : A). encoded_in F order (seen n) bytes) is (decodes order bytes sized are)

  pub taken_encodes : {n : A} (bytes : List ℕ) (at some : ℕ) → at + some ≤ length bytes → some ≡ size → AreBytes bytes
      → let chunk = take (at + some - at) (drop at bytes) in n ≡ decoded order chunk → encoded_in F order (seen n) chunk
  taken_encodes bytes at some room same are is =
      let chunk = take (at + some - at) (drop at bytes) in
      let sized : length chunk ≡ size =
      length-take-le (at + some - at) (drop at bytes) (omega (arith, length-drop at bytes)) ∙ omega (arith, same) in
      encoding_stands chunk sized (are_parts (at + some - at) (drop at bytes) (are_parts at bytes are).1).0 (sym is)

module _ {A V : Type 0} (S : V → List ℕ → Type 0) (seen : A → V) where
  -- all are put
  pub all_put : (xs : List A) (i width at : ℕ) (output : List ℕ) → i ≡ length xs → at ≡ i * width
      → length output ≡ length xs * width
      → Each S (map seen (take i xs)) (take at output) → Each S (map seen xs) output
  all_put xs i width at output all is sized h =
      let whole : length output ≤ at = let e = is ∙ ap (λ (n : ℕ). n * width) all in omega (arith, sized, e) in
      subst (λ (ys : List A). Each S (map seen ys) output) (take_all i xs (omega (arith, all)))
      (subst (λ (b : List ℕ). Each S (map seen (take i xs)) b) (take_all at output whole) h)

  -- one number more
  pub one_more : (xs : List A) (i : ℕ) {x : A} (before digits : List ℕ) → i < length xs → x ≡ get_or xs i x
      → S (seen x) digits
      → Each S (map seen (take i xs)) before → Each S (map seen (take (i + 1) xs)) (before ++ digits)
  one_more xs i {x} before digits within is put h =
      let items : map seen (take (i + 1) xs) ≡ map seen (take i xs) ++ seen x ∷ [] =
      ap (map seen) (take_more xs i x within ∙ ap (λ y. take i xs ++ y ∷ []) (sym is))
      ∙ map-append seen (take i xs) (x ∷ []) in
      subst (λ (vs : List V). Each S vs (before ++ digits)) (sym items)
      (each_more S (map seen (take i xs)) (seen x) before digits h put)

  -- which is taken of the bytes behind the first ones, into the next place
  pub one_more_taken : (xs : List A) (i at size : ℕ) (bytes : List ℕ) {y : A} → i < length xs
      → S (seen y) (take (at + size - at) (drop at bytes)) → Each S (map seen (take i xs)) (take at bytes)
      → Each S (map seen (take (i + 1) (set xs i y))) (take (at + size) bytes)
  one_more_taken xs i at size bytes {y} within taken h =
      let digits = take (at + size - at) (drop at bytes) in
      let items : map seen (take (i + 1) (set xs i y)) ≡ map seen (take i xs) ++ seen y ∷ [] =
      ap (map seen) (take_more_set xs i y within) ∙ map-append seen (take i xs) (y ∷ []) in
      let count : at + size - at ≡ size = omega arith in
      let whole : take (at + size) bytes ≡ take at bytes ++ digits =
      take_parts at size bytes ∙ ap (λ n. take at bytes ++ take n (drop at bytes)) (sym count) in
      subst₂ (λ (vs : List V) (b : List ℕ). Each S vs b) (sym items) (sym whole)
      (each_more S (map seen (take i xs)) (seen y) (take at bytes) digits h taken)

  -- which is put behind the first ones
  pub one_more_put : (xs : List A) (i width : ℕ) {x : A} (at : ℕ) (output digits : List ℕ) → i < length xs
      → x ≡ get_or xs i x → at + width ≤ length output → length digits ≡ width
      → S (seen x) digits → Each S (map seen (take i xs)) (take at output)
      → Each S (map seen (take (i + 1) xs)) (take (at + width) (put_mid at (at + width - at) output digits))
  one_more_put xs i width at output digits within is fits sized put h =
      let prefix = take at output in
      let rest = post_of at (at + width - at) output in
      let whole : length (prefix ++ digits) ≡ at + width =
      length-append prefix digits ∙ (let l = length-take-le at output (omega arith) in omega (arith, l, sized)) in
      let bytes : take (at + width) (put_mid at (at + width - at) output digits) ≡ prefix ++ digits =
      ap (take (at + width)) (sym (append_assoc prefix digits rest))
      ∙ take_at (prefix ++ digits) rest (at + width) whole in
      subst (λ (b : List ℕ). Each S (map seen (take (i + 1) xs)) b) (sym bytes)
      (one_more xs i prefix digits within is put h)

-- one byte is its number, in each order
number_of_one : (order : Endianness) (b : ℕ) → number order (b ∷ []) ≡ b
unfolding number
number_of_one LittleEndian b = omega arith
number_of_one BigEndian b = omega arith

pub number_of_byte : (order : Endianness) (bytes : List ℕ) → length bytes ≡ 1 → get_or bytes 0 0 ≡ number order bytes
number_of_byte order [] l = absurd (omega arith)
number_of_byte order (b ∷ []) l = sym (number_of_one order b)
number_of_byte order (b ∷ c ∷ bytes) l = absurd (omega arith)

pub number_of_put : (order : Endianness) (bytes : List ℕ) (b : ℕ) → length bytes ≡ 1 → number order (set bytes 0 b) ≡ b
number_of_put order [] b l = absurd (omega arith)
number_of_put order (x ∷ []) b l = number_of_one order b
number_of_put order (x ∷ y ∷ bytes) b l = absurd (omega arith)

empty : (xs : List ℕ) → length xs ≡ 0 → xs ≡ []
empty [] e = refl
empty (x ∷ xs) e = absurd (omega arith)

none_left : {width : ℕ} (xs : List ℕ) (count : ℕ) → length xs ≡ count * width → length xs < width → xs ≡ []
none_left xs zero e l = empty xs (omega (arith, e))
none_left xs (suc count) e l = absurd (omega (arith, e, l))

-- The numbers that were appended, of all but the rest of the bytes, and that there is room for those of the rest.
pub record Appended {A V : Type 0} (S : V → List ℕ → Type 0) (seen : A → V) (width : ℕ) (before after : List A)
    (bytes rest : List ℕ) (used room : ℕ) : Type 0 where
  pub more : List A
  pub done : List ℕ
  pub left : ℕ
  pub items_are : after ≡ before ++ more
  pub bytes_are : bytes ≡ done ++ rest
  pub each_is : Each S (map seen more) done
  pub rest_is : length rest ≡ left * width
  pub has_room : used + left ≤ room

-- a chunk that comes next leaves one number less
next_left : (left width : ℕ) (rest chunk after : List ℕ) → 0 < width → length rest ≡ left * width
    → rest ≡ chunk ++ after → length chunk ≡ width → (fewer : ℕ) × (left ≡ suc fewer) × (length after ≡ fewer * width)
next_left zero width rest chunk after some e is sized =
    let l = ap length is ∙ length-append chunk after in absurd (omega (arith, some, e, l, sized))
next_left (suc fewer) width rest chunk after some e is sized =
    let l = ap length is ∙ length-append chunk after in (fewer, refl, omega (arith, e, l, sized))

module _ {A V : Type 0} {S : V → List ℕ → Type 0} {seen : A → V} {width : ℕ} where
  pub none_appended : {used room : ℕ} (items : List A) (bytes rest : List ℕ) (count : ℕ) → rest ≡ bytes
      → length bytes ≡ count * width → used + count ≤ room → Appended S seen width items items bytes rest used room
  none_appended items bytes rest count same whole room = record {
    more = [];
    done = [];
    left = count;
    items_are = sym (append-nil items);
    bytes_are = sym same;
    each_is = refl;
    rest_is = ap length same ∙ whole;
    has_room = room;
  }

  module _ {before after : List A} {bytes rest : List ℕ} {used room : ℕ}
      (h : Appended S seen width before after bytes rest used room) where
    pub room_for_next : (chunk behind : List ℕ) → 0 < width → rest ≡ chunk ++ behind → length chunk ≡ width
        → used < room
    room_for_next chunk behind some is sized =
        let n = next_left h.left width rest chunk behind some h.rest_is is sized in omega (arith, h.has_room, n.1)

    pub next_are_bytes : (chunk behind : List ℕ) → rest ≡ chunk ++ behind → AreBytes bytes → AreBytes chunk
    next_are_bytes chunk behind is are =
        let parts = AreBytes-append_parts h.done rest (subst AreBytes h.bytes_are are) in
        (AreBytes-append_parts chunk behind (subst AreBytes is parts.1)).0

    pub one_more_appended : {x : A} {new : List A} {used' room' : ℕ} (chunk behind : List ℕ) → 0 < width
        → rest ≡ chunk ++ behind → length chunk ≡ width → S (seen x) chunk → new ≡ after ++ x ∷ []
        → used' ≡ used + 1 → room' ≡ room → Appended S seen width before new bytes behind used' room'
    one_more_appended {x} chunk behind some is sized put added one same =
        let n = next_left h.left width rest chunk behind some h.rest_is is sized in
        record {
          more = h.more ++ x ∷ [];
          done = h.done ++ chunk;
          left = n.0;
          items_are = added ∙ (ap (λ ys. ys ++ x ∷ []) h.items_are ∙ append_assoc before h.more (x ∷ []));
          bytes_are = h.bytes_are ∙ (ap (λ b. h.done ++ b) is ∙ sym (append_assoc h.done chunk behind));
          each_is = subst (λ (vs : List V). Each S vs (h.done ++ chunk)) (sym (map-append seen h.more (x ∷ [])))
              (each_more S (map seen h.more) (seen x) h.done chunk h.each_is put);
          rest_is = n.2;
          has_room = omega (arith, h.has_room, n.1, one, same);
        }

    pub all_appended : length rest < width → (more : List A) × (after ≡ before ++ more) × Each S (map seen more) bytes
    all_appended short =
        let ended = none_left rest h.left h.rest_is short in
        let whole : bytes ≡ h.done = h.bytes_are ∙ (ap (λ b. h.done ++ b) ended ∙ append-nil h.done) in
        (h.more, h.items_are, subst (λ (b : List ℕ). Each S (map seen h.more) b) (sym whole) h.each_is)
