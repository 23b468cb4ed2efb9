-- Items that are measured where they lie, and lists of them.
use Rattle.std.specs.Prelude.{◌≡◌, ℕ, zero, suc, ◌+◌, ◌-◌, ◌^◌, ◌<◌, List, [], ◌∷◌, ◌++◌, length, drop, Bool, true}
use Rattle.std.specs.Prelude.{IsTrue, ◌⊎◌, Result, Err, MatchResult, IsErrAnd, refl}
use Rattle.std.proofs.Common.{sym, ◌∙◌, ap, subst, inl, inr, arith, true≢false}
use Rattle.std.proofs.Math.ListN.{get_or}
use Rattle.std.proofs.Math.Logic.{∥∥₁_elim, ∥∥₁_map}
use Rattle.std.proofs.Math.Seq.{drop-cons}
use Rattle.std.proofs.lemmas.List.{append_assoc, append-nil, length-append, length-drop, drop_at, map-id}
use Rattle.std.specs.Coded.{Coded-set}
use Rattle.speedy_base.specs.declared.error.Error.{Error}
use Rattle.speedy_base.specs.declared.error.ErrorKind.TheVariants as kinds
use Rattle.speedy_base.specs.Digits.{AreBytes}
use Rattle.speedy_base.specs.DigitsLemmas.{AreBytes-append_parts}
use Rattle.speedy_base.specs.Error.{error_of, IsNamed-more, passed_on}
use Rattle.speedy_base.specs.Mode.{Mode}
use Rattle.speedy_layout.specs.Format.{Format, Each, Parts-joined}
use Rattle.speedy_layout.specs.Laws.{Laws}
use Rattle.speedy_layout.specs.Lists.{each_append, repeat, vector}
use Rattle.speedy_read.specs.Buffers.{bytes_state}
use Rattle.speedy_read.specs.Reading.{ReaderState, Reads, Undecodable, refusing_kinds}
use Rattle.speedy_read.specs.ReadingLemmas.{prefixes_nest, ReadSoFar}
use Rattle.speedy_read.specs.WaysOfReading.{Counts, RefusesBufferIf}
use Rattle.speedy_read.proofs.ListLemmas.{next_item}
use Rattle.speedy_write.specs.BehindCounts.{items_written}
use Rattle.speedy_write.specs.Writing.{WriterState, Writes, WritesEach}
use Rattle.speedy.specs.InPlace.{InPlaceCodec}
use Rattle.speedy.specs.Prefixes.{BeginsWithNone}

-- so many items that are the same
same_items : {V : Type 0} → ℕ → V → List V
same_items zero v = []
same_items (suc n) v = v ∷ same_items n v

length-same_items : {V : Type 0} (n : ℕ) (v : V) → length (same_items n v) ≡ n
unfolding same_items
length-same_items zero v = refl
length-same_items (suc n) v = ap suc (length-same_items n v)

-- of a value that has no bytes
empty_items : {V : Type 0} (encodes : V → List ℕ → Type 0) (n : ℕ) (v : V) → encodes v []
    → Each encodes (same_items n v) []
unfolding same_items
empty_items encodes zero v h = refl
empty_items encodes (suc n) v h = Parts-joined [] [] h (empty_items encodes n v h)

-- where their number is 0, there are none
pub no_bytes : (b : List ℕ) → length b ≡ 0 → b ≡ []
no_bytes [] h = refl
no_bytes (x ∷ b) h = absurd (omega (arith, h))

-- what was read under a mode is read under one that is the same
pub read_in : {E : Type 0} {gives : Error → E → Type 0} {eof : E → Bool} {A V : Type 0} {seen : A → V}
    {result : Result A E} {mid new : ReaderState} {other mode : Mode} (format : Mode → Format V) → other ≡ mode
    → Reads gives eof seen (format other) result mid new → Reads gives eof seen (format mode) result mid new
read_in {gives = gives} {eof = eof} {seen = seen} {result = result} {mid = mid} {new = new} format same read =
    subst (λ m. Reads gives eof seen (format m) result mid new) same read

module _ {V : Type 0} (F : Format V) {bytes rest : List ℕ} {mode other : Mode} where
  -- all items were read
  pub measured : (n : ℕ) (vs : List V) → length vs ≡ n
      → ReadSoFar (Each F.encodes vs) (bytes_state bytes mode) (bytes_state rest other)
      → Counts ((repeat n F).encodes vs) (length bytes - length rest) bytes
  unfolding repeat
  measured n vs many so_far = record {
    prefix = so_far.got.prefix;
    rest = rest;
    whole_is = so_far.got.taken refl;
    prefix_is = (many, so_far.got.prefix_is);
    count_is =
        let l = ap length (so_far.got.taken refl) ∙ length-append so_far.got.prefix rest in
        omega (arith, l);
  }

  -- where an item has no bytes, all others have none
  pub measured_early : (n : ℕ) (vs : List V) (v : V) (prefix more : List ℕ)
      → length vs < n → ReadSoFar (Each F.encodes vs) (bytes_state bytes mode) (bytes_state rest other)
      → F.encodes v prefix → rest ≡ prefix ++ more → length more ≡ length rest
      → (items : List V) × Counts ((repeat n F).encodes items) (length bytes - length rest) bytes
  unfolding repeat
  measured_early n vs v prefix more fewer so_far h is same =
      let none = no_bytes prefix (let l = ap length is ∙ length-append prefix more in omega (arith, l, same)) in
      let left = n - length vs in
      let others = each_append F.encodes vs (same_items left v) so_far.got.prefix [] so_far.got.prefix_is
      (empty_items F.encodes left v (subst (F.encodes v) none h)) in (
        vs ++ same_items left v,
        record {
          prefix = so_far.got.prefix;
          rest = rest;
          whole_is = so_far.got.taken refl;
          prefix_is = (
            length-append vs (same_items left v)
                ∙ (let l = length-same_items left v in omega (arith, l, fewer)),
            subst (Each F.encodes (vs ++ same_items left v)) (append-nil so_far.got.prefix) others,
          );
          count_is =
              let l = ap length (so_far.got.taken refl) ∙ length-append so_far.got.prefix rest in
              omega (arith, l);
        },
      )

module _ {V : Type 0} {strict : Bool} {least : ℕ} {F : Format V} (laws : Laws strict least F) {E : Type 0}
    {gives : Error → E → Type 0} {eof : E → Bool} (n : ℕ) (vs : List V) (fewer : length vs < n) {e : E} where
  -- where the next item is refused, all are
  pub items_undecodable : (prefix rest : List ℕ) → Each F.encodes vs prefix → Undecodable gives eof F e rest
      → Undecodable gives eof (repeat n F) e (prefix ++ rest)
  unfolding repeat
  items_undecodable prefix rest h un = record {
    no_prefix = λ ws s t is k.
        let next = next_item laws vs ws prefix s rest t (subst (λ m. length vs < m) (sym k.0) fewer) h k.1 is in
        un.no_prefix next.0 next.1 next.2 next.3 next.4;
    too_short = λ ws more k.
        let whole = (prefix ++ rest) ++ more in
        let joined = sym (append_assoc prefix rest more) ∙ sym (append-nil whole) in
        let next = next_item laws vs ws prefix whole (rest ++ more) [] (subst (λ m. length vs < m) (sym k.0) fewer) h
        k.1
        joined
        in
        elim (prefixes_nest rest more next.1 next.2 next.3) [
          | inl x ↦ un.too_short next.0 x.0 (subst (F.encodes next.0) x.1 next.4)
          | inr x ↦ absurd (un.no_prefix next.0 next.1 x.0 x.1 next.4)
        ];
    malformed = λ bad. absurd bad;
    wrong_length = λ wrong. absurd wrong;
  }

  -- as a buffer refuses them
  pub measure_refused : {A : Type 0} {seen : A → V} {bytes rest more : List ℕ} {mode other last : Mode}
      → AreBytes bytes → length bytes < 2 ^ 64 - 1
      → ReadSoFar (Each F.encodes vs) (bytes_state bytes mode) (bytes_state rest other)
      → (result : Result ℕ E) → IsErrAnd result (λ x. x ≡ e)
      → Reads gives eof seen F (Err e) (bytes_state rest other) (bytes_state more last)
      → MatchResult result (λ size. (items : List V) × Counts ((repeat n F).encodes items) size bytes)
      (λ x. (gives (error_of kinds.OutOfMemory) x × IsTrue (repeat n F).asks.memory)
      ⊎ RefusesBufferIf gives eof (Unit {0}) (repeat n F).names (repeat n F) x bytes)
  unfolding repeat
  measure_refused {bytes = bytes} {rest = rest} are fit so_far result passed read =
      let is = so_far.got.taken refl in
      subst (λ (r : Result ℕ E). MatchResult r
      (λ size. (items : List V) × Counts ((repeat n F).encodes items) size bytes)
      (λ x. (gives (error_of kinds.OutOfMemory) x × IsTrue (repeat n F).asks.memory)
      ⊎ RefusesBufferIf gives eof (Unit {0}) (repeat n F).names (repeat n F) x bytes)) (passed_on result e passed)
      (elim read.answer [
        | inl (inl (given, inl takes, clean)) ↦ inl (given, takes)
        | inl (inl (given, inr asks, clean)) ↦ absurd (true≢false (sym asks))
        | inl (inr fault) ↦ absurd (elim fault.0 [ inl x ↦ omega (arith, x) | inr x ↦ omega (arith, x) ])
        | inr x ↦ inr (record {
          kind = elim x.kind [
            | inl ended ↦ inl ended
            | inr named ↦ inr (IsNamed-more gives {names = refusing_kinds F true} {more = F.names} e
                (λ kind h. elim h [ inl y ↦ y | inr y ↦ absurd (true≢false y.1) ]) named)
          ];
          because = λ _. subst (λ b. Undecodable gives eof (repeat n F) e b) (sym is)
              (items_undecodable so_far.got.prefix rest so_far.got.prefix_is (x.because (record {
                tells = refl;
                are_bytes = (AreBytes-append_parts so_far.got.prefix rest (subst AreBytes is are)).1;
                fit = let l = ap length is ∙ length-append so_far.got.prefix rest in omega (arith, l, fit);
                lends = λ _. refl;
              })));
        })
      ])

-- ---- items that are left of a list

module _ {V : Type 0} (item : InPlaceCodec V) (mode : Mode) (vs : List V) (i : ℕ) (within : i < length vs)
    {bytes : List ℕ} (left : ∥ Each (item.codec.format mode).encodes (drop i vs) bytes ∥₁) where
  first_begins : (us : List V) → 0 < length us → Each (item.codec.format mode).encodes us bytes
      → BeginsWithNone (item.codec.format mode) bytes → ⊥
  first_begins [] some h none = omega (arith, some)
  first_begins (v ∷ us) some h none = none v h.suffix (h.prefix, h.first_is, h.whole_is)

  -- the bytes begin with the next one
  pub next_begins : IsTrue (item.codec.format mode).asks.memory ⊎ BeginsWithNone (item.codec.format mode) bytes → ⊥
  next_begins (inl takes) = true≢false (sym takes ∙ item.no_memory mode)
  next_begins (inr none) =
      ∥∥₁_elim left (λ x y. absurd x)
      (λ h. first_begins (drop i vs) (let l = length-drop i vs in omega (arith, l, within)) h none)

  -- what they begin with is that one, and behind it stand the others
  pub next_of_list : (w : V) {size : ℕ} → Counts ((item.codec.format mode).encodes w) size bytes
      → (w ≡ get_or vs i w) × ∥ Each (item.codec.format mode).encodes (drop (i + 1) vs) (drop size bytes) ∥₁
  next_of_list w {size = size} found =
      let v = get_or vs i w in
      let more = drop (suc i) vs in
      let step : suc i ≡ i + 1 = omega arith in
      let all : ∥ Each (item.codec.format mode).encodes (v ∷ more) bytes ∥₁ =
      subst (λ us. ∥ Each (item.codec.format mode).encodes us bytes ∥₁) (drop-cons vs i w within) left in
      let same : (h : Each (item.codec.format mode).encodes (v ∷ more) bytes)
      → (w ≡ v) × (found.prefix ≡ h.prefix) × (found.rest ≡ h.suffix) =
      λ h. (item.codec.laws mode).decodes w v found.prefix h.prefix found.rest h.suffix found.prefix_is h.first_is
      (sym found.whole_is ∙ h.whole_is) in
      let rest : drop size bytes ≡ found.rest =
      ap (drop size) found.whole_is ∙ drop_at found.prefix found.rest size (sym found.count_is) in (
        ∥∥₁_elim all (Coded-set item.coded w v) (λ h. (same h).0),
        subst (λ k. ∥ Each (item.codec.format mode).encodes (drop k vs) (drop size bytes) ∥₁) step
            (∥∥₁_map all
            (λ h. subst (Each (item.codec.format mode).encodes more) (sym (rest ∙ (same h).2)) h.second_is)),
      )

-- items that are written, one after another, as so many are written as a vector
pub list_written : {E V : Type 0} {gives : Error → E → Type 0} (F : Mode → Format V) (n : ℕ) (vs : List V)
    → length vs ≡ n → {result : Result (Unit {0}) E} {old new : WriterState} {appended : List ℕ → Type 0}
    → WritesEach gives F (λ v. v) vs result old new appended
    → Writes gives (λ mode. vector n (F mode)) vs result old new appended
list_written {gives = gives} F n vs many {result = result} {old = old} {new = new} {appended = appended} w =
    subst (λ m. Writes gives (λ mode. vector m (F mode)) vs result old new appended) many
    (subst (λ us. Writes gives (λ mode. vector (length vs) (F mode)) us result old new appended) (map-id vs)
    (items_written F (λ v. v) vs w))
