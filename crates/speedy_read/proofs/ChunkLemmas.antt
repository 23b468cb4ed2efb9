-- Numbers that are read by chunks of their digits, or at once of bytes that are lent.
use Rattle.std.specs.Prelude.{◌≡◌, ℕ, zero, suc, ◌+◌, ◌-◌, ◌*◌, ◌/◌, ◌^◌, ◌<◌, ◌≤◌, List, ◌++◌, length, map, take, Bool}
use Rattle.std.specs.Prelude.{true, Option, Some, None, Result, Ok, Err, IsErrAnd, MatchResult, [], refl}
use Rattle.std.proofs.Common.{sym, ◌∙◌, ap, subst, subst₂, arith, inl, inr}
use Rattle.std.proofs.Math.Nat.{le-div_iff_mul-le}
use Rattle.std.proofs.lemmas.Bool.{cases_lt}
use Rattle.std.proofs.lemmas.List.{append_assoc, length-append, length-map, length-take-le, map-append, take_at}
use borrow.Rule.Slice.PartMut.{put_mid, post_of}
use Rattle.speedy_base.specs.declared.error.ErrorKind.TheVariants as kinds
use Rattle.speedy_base.specs.declared.error.Error.{Error}
use Rattle.speedy_base.specs.declared.endianness.Endianness.{Endianness}
use Rattle.speedy_base.specs.Digits.{AreBytes}
use Rattle.speedy_base.specs.Mode.{Mode}
use Rattle.speedy_base.specs.Error.{error_of, IsNamed, IsIoErrorOf}
use Rattle.std.specs.declared.io.Error.{Error as StdIoError}
use Rattle.speedy_layout.specs.FixedNumbers.{IsFixed, encoded_in, each_length}
use Rattle.speedy_layout.specs.Format.{Format, Each}
use Rattle.speedy_layout.specs.Laws.{Laws}
use Rattle.speedy_layout.specs.Lists.{each_as, each_append, repeat, vector}
use Rattle.speedy_layout.specs.Numbers.{unsigned_number}
use Rattle.speedy_layout.specs.Owned.{owned_content}
use Rattle.speedy_layout.specs.Sequences.{asks_nothing_more}
use Rattle.speedy_layout.specs.Texts.{raw_bytes, any_bytes}
use Rattle.speedy_read.specs.Codes.{Covers, refused_covered}
use Rattle.speedy_read.specs.Reading.{ReaderState, IsEnd, Reads, LendsUntilUsed, ends_alone}
use Rattle.speedy_read.specs.ReadingLemmas.{Got-as, ReadSoFar, more_so_far, none_so_far}
use Rattle.speedy_read.proofs.ByteLemmas.{SkippedSoFar, chunk_refused, all_bytes, more_bytes}
use Rattle.speedy_read.proofs.ListLemmas.{refused_room}

-- no input has more bytes than a `usize` counts
pub past_usize : (m n k : ℕ) → (m < 2 ^ 64 → ⊥) → m ≡ n → k < 2 ^ 64 - 1 → k < n
past_usize m n k past same fits =
    elim (cases_lt k n) [
      | inl h ↦ h
      | inr h ↦ absurd (past (omega (arith, h, same, fits)))
    ]

-- the bytes of n numbers
pub all_digits : {all width : ℕ} (n size : ℕ) → all ≡ n * size → size ≡ width → all ≡ n * width
all_digits n size is same = is ∙ ap (λ s. n * s) same

-- as many bytes are as many numbers
pub same_count : {width : ℕ} → 0 < width → (m n : ℕ) → m * width ≡ n * width → m ≡ n
same_count some zero zero e = refl
same_count some zero (suc n) e = absurd (omega (arith, some, e))
same_count some (suc m) zero e = absurd (omega (arith, some, e))
same_count some (suc m) (suc n) e = ap suc (same_count some m n (omega (arith, e)))

-- a chunk of n numbers among all
pub within_all : (width k n : ℕ) → k ≤ n → k * width ≤ n * width
within_all width zero n l = omega arith
within_all width (suc k) zero l = absurd (omega arith)
within_all width (suc k) (suc n) l = let less = within_all width k n (omega arith) in omega (arith, less)

chunk_within : (width m k n size : ℕ) → m + k ≤ n → size ≡ k * width → m * width + size ≤ n * width
chunk_within width zero k n size l is = let less = within_all width k n (omega (arith, l)) in omega (arith, less, is)
chunk_within width (suc m) k zero size l is = absurd (omega (arith, l))
chunk_within width (suc m) k (suc n) size l is =
    let less = chunk_within width m k n size (omega (arith, l)) is in
    omega (arith, less)

-- and in the room for it
pub chunk_fits : {width some size size' room room' : ℕ} → 0 < width → some ≤ room / size → size ≡ width → size' ≡ width
    → room' ≡ room → some * size' ≤ room'
chunk_fits {some = some} positive within is is' same =
    subst₂ (λ (s r : ℕ). some * s ≤ r) (is ∙ sym is') (sym same)
    ((le-div_iff_mul-le (subst (λ (w : ℕ). 0 < w) (sym is) positive)).0 within)

module _ {V : Type 0} {F : Mode → Format V} {least width : ℕ}
    (laws : (mode : Mode) → Laws mode.strict least (F mode)) (fixed : IsFixed width F) where
  -- digits encode the values
  pub each_stands : (mode : Mode) (vs : List V) (bytes : List ℕ) → Each (encoded_in F mode.order) vs bytes
      → Each (F mode).encodes vs bytes
  each_stands mode = each_as (λ v b h. (laws mode).written_encodes v b (fixed.writes mode v b h))

  pub each_sized : (mode : Mode) (vs : List V) (bytes : List ℕ) → Each (F mode).encodes vs bytes
      → length bytes ≡ length vs * width
  each_sized mode vs bytes h =
      each_length fixed mode.order vs bytes (each_as (fixed.encodes mode) vs bytes h)

  -- n values are read where n times their bytes are
  fixed_covers : (n : ℕ) (mode : Mode) → Covers (any_bytes (n * width)) (vector n (F mode))
  unfolding any_bytes vector owned_content repeat
  fixed_covers n mode = record {
    under = λ vs s h. (tt, each_sized mode vs s h.1 ∙ ap (λ m. m * width) h.0);
    names = λ kind h. absurd h;
    malformed = λ bytes are h. absurd h;
    wrong_length = λ bytes are h. absurd h;
    asks = asks_nothing_more;
  }

  module _ {E : Type 0} {gives : Error → E → Type 0} {eof : E → Bool} {old mid new : ReaderState} (mode : Mode)
      {B A : Type 0} {shown : B → List ℕ} (seen : A → V) (n : ℕ) where
    -- numbers more were read
    pub more_numbers : {x : B} {order : Endianness} (xs more : List A) (size : ℕ) → order ≡ mode.order
        → ReadSoFar (Each (F mode).encodes (map seen xs)) old mid
        → Reads gives eof shown (raw_bytes size) (Ok x) mid new
        → Each (encoded_in F order) (map seen more) (shown x)
        → ReadSoFar (Each (F mode).encodes (map seen (xs ++ more))) old new
    unfolding raw_bytes
    more_numbers {x = x} xs more size same so_far read digits =
        let S = (F mode).encodes in
        let stands : Each S (map seen more) (shown x) =
        each_stands mode (map seen more) (shown x)
        (subst (λ (o : Endianness). Each (encoded_in F o) (map seen more) (shown x)) same digits) in
        more_so_far so_far read (λ s t h k.
        subst (λ (vs : List V). Each S vs (s ++ t)) (sym (map-append seen xs more))
        (each_append S (map seen xs) (map seen more) s t h
        (subst (λ (b : List ℕ). Each S (map seen more) b) k.0 stands)))

    -- where a chunk is refused, all are
    pub numbers_refused : {C : Type 0} {seen' : C → List V} {e : E} {result : Result C E} (xs : List A) (some : ℕ)
        {size : ℕ} → length xs + some ≤ n → size ≡ some * width
        → ReadSoFar (Each (F mode).encodes (map seen xs)) old mid → IsErrAnd result (λ x. x ≡ e)
        → Reads gives eof shown (raw_bytes size) (Err e) mid new
        → Reads gives eof seen' (vector n (F mode)) result old new
    numbers_refused xs some {size} within sized so_far passed read =
        let count = length xs * width in
        let skipped : SkippedSoFar count old mid = record {
          kept = so_far.kept;
          got = Got-as
              (λ s h. each_sized mode (map seen xs) s h ∙ ap (λ m. m * width) (length-map xs seen)) so_far.got;
        } in
        refused_covered (fixed_covers n mode) passed
        (chunk_refused size {seen' = λ (u : Unit {0}). u} count
        (chunk_within width (length xs) some n size within sized) skipped refl read)

-- n numbers were appended as their bytes were
module _ {V A : Type 0} {F : Mode → Format V} {width : ℕ} (fixed : IsFixed width F) (seen : A → V) where
  pub count_of_digits : (order : Endianness) (more : List A) (bytes : List ℕ) (n : ℕ)
      → Each (encoded_in F order) (map seen more) bytes → length bytes ≡ n * width → length more ≡ n
  count_of_digits order more bytes n h l =
      same_count fixed.has_bytes (length more) n
      (ap (λ m. m * width) (sym (length-map more seen)) ∙ (sym (each_length fixed order (map seen more) bytes h) ∙ l))

-- what is put behind the first values
pub put_behind : {A : Type 0} (xs new : List A) (at some : ℕ) → at ≤ length xs → length new ≡ some
    → take (at + some) (put_mid at (at + some - at) xs new) ≡ take at xs ++ new
put_behind xs new at some within sized =
    let rest = post_of at (at + some - at) xs in
    let whole : length (take at xs ++ new) ≡ at + some =
    length-append (take at xs) new ∙ (let l = length-take-le at xs within in omega (arith, l, sized)) in
    ap (take (at + some)) (sym (append_assoc (take at xs) new rest))
    ∙ take_at (take at xs ++ new) rest (at + some) whole

-- ---- bytes that are lent until the reader is used again

-- the one error that ends them is no device's
never_of_a_device : {X : Type 0} (error : StdIoError) (x : X) → IsNamed ends_alone (IsIoErrorOf error) x → ⊥
never_of_a_device error x named = subst (IsIoErrorOf error) (ap (λ (e : Error). e.kind) named.2) named.1

never_memory : error_of kinds.OutOfMemory ≡ error_of kinds.UnexpectedEndOfInput → ⊥
never_memory same =
    let kind : kinds.OutOfMemory ≡ kinds.UnexpectedEndOfInput = ap (λ (e : Error). e.kind) same in
    absurd (cc)

-- what was lent
pub lent_is : {X A : Type 0} {shown : A → List ℕ} (size : ℕ) {old new : ReaderState} {lent : Option (Result A X)}
    {read : Result A X} (result : Result A X) → lent ≡ Some read → read ≡ result
    → LendsUntilUsed shown size lent old new
    → Reads (ends_alone {E = X}) (λ _. true) shown (raw_bytes size) result old new
lent_is {X = X} {A = A} {shown = shown} size {old = old} {new = new} result is same h =
    subst (λ (r : Result A X). Reads (ends_alone {E = X}) (λ _. true) shown (raw_bytes size) r old new) same
    (subst (λ (o : Option (Result A X)). LendsUntilUsed shown size o old new) is h)

-- where nothing was lent, the reader is as it was
pub none_lent : {X A : Type 0} (shown : A → List ℕ) (size : ℕ) {old new : ReaderState} {lent : Option (Result A X)}
    → lent ≡ None → LendsUntilUsed shown size lent old new → new ≡ old
none_lent {X = X} {A = A} shown size {old = old} {new = new} is h =
    subst (λ (o : Option (Result A X)). LendsUntilUsed shown size o old new) is h

-- and as much was read so far
pub not_lent : {X A : Type 0} (shown : A → List ℕ) (size : ℕ) {S : List ℕ → Type 0} {old mid new : ReaderState}
    {lent : Option (Result A X)} → ReadSoFar S old mid → lent ≡ None → LendsUntilUsed shown size lent mid new
    → ReadSoFar S old new
not_lent shown size {S = S} {old = old} so_far is h =
    subst (λ (s : ReaderState). ReadSoFar S old s) (sym (none_lent shown size is h)) so_far

-- n bytes were lent
pub lent_length : {X A : Type 0} {shown : A → List ℕ} (size : ℕ) {old new : ReaderState} {x : A}
    → Reads (ends_alone {E = X}) (λ _. true) shown (raw_bytes size) (Ok x) old new → length (shown x) ≡ size
unfolding raw_bytes
lent_length size r = ap length r.answer.prefix_is.0 ∙ r.answer.prefix_is.1

module _ {E X A : Type 0} {gives : Error → E → Type 0} {eof : E → Bool} {shown : A → List ℕ} (size : ℕ)
    {old new : ReaderState} where
  -- what was lent was read
  pub lent_read : {x : A} → Reads (ends_alone {E = X}) (λ _. true) shown (raw_bytes size) (Ok x) old new
      → Reads gives eof shown (raw_bytes size) (Ok x) old new
  lent_read r = record { kept = r.kept; answer = r.answer }

  -- and where it ended, the read is refused as ended
  pub lent_refused : {x : X} {e : E} → IsEnd gives eof old.fixed.ends_by_device e
      → Reads ends_alone (λ _. true) shown (raw_bytes size) (Err x) old new
      → Reads gives eof shown (raw_bytes size) (Err e) old new
  unfolding raw_bytes
  lent_refused {x = x} ended r = record {
    kept = r.kept;
    answer =
        elim r.answer [
          | inl (inl h) ↦ absurd (never_memory h.0)
          | inl (inr h) ↦
              inl (inr (h.0, λ tells. let failed = h.1 tells in absurd (never_of_a_device failed.0 x failed.2)))
          | inr h ↦ inr (record {
            no_fault = h.no_fault;
            kind = inl ended;
            because = λ told. let un = h.because told in record {
              no_prefix = un.no_prefix;
              too_short = λ _ _ _. ended.1;
              malformed = λ bad. absurd bad;
              wrong_length = λ wrong. absurd wrong;
            };
          })
        ];
  }

-- a copy of bytes that were read, or want of memory for it
pub bytes_copied : {E : Type 0} {gives : Error → E → Type 0} {eof : E → Bool} {A B : Type 0} {seen : A → List ℕ}
    {seen' : B → List ℕ} {old new : ReaderState} {x : A} (mode : Mode) (n : ℕ) (result : Result B E)
    → MatchResult result (λ y. seen' y ≡ seen x) (gives (error_of kinds.OutOfMemory)) → AreBytes (seen x)
    → length (seen x) ≡ n → Reads gives eof seen (raw_bytes n) (Ok x) old new
    → Reads gives eof seen' (vector n (unsigned_number 1 mode)) result old new
bytes_copied mode n (Ok y) same are sized read =
    all_bytes mode (more_bytes n [] _ (none_so_far refl) read same) (ap length same ∙ sized)
    (subst AreBytes (sym same) are)
bytes_copied mode n (Err e) want are sized read =
    refused_room n _ e read.kept read.answer.no_fault refl want
