-- Reads of lists that lie where they were read.
use Rattle.std.specs.Prelude.{◌≡◌, ℕ, ◌≤◌, List, ◌++◌, length, take, drop, Bool, true, false, IsTrue}
use Rattle.std.specs.Prelude.{◌⊎◌, Result, Ok, Err, IsErrAnd, refl}
use Rattle.std.proofs.Common.{sym, ◌∙◌, ap, subst, inl, inr, arith, true≢false}
use Rattle.std.proofs.lemmas.List.{take-append-drop, length-append, length-take-le}
use Rattle.speedy_base.specs.declared.endianness.Endianness.{Endianness}
use Rattle.speedy_base.specs.declared.error.Error.{Error}
use Rattle.speedy_base.specs.declared.error.ErrorKind.{ErrorKind}
use Rattle.speedy_base.specs.declared.error.ErrorKind.TheVariants as kinds
use Rattle.speedy_base.specs.Error.{error_of, is_eof_error, IsNamed-more}
use Rattle.speedy_base.specs.ErrorKind.{EndsInput}
use Rattle.speedy_base.specs.Mode.{Mode, plain_mode, strict_mode}
use Rattle.speedy_layout.specs.Codecs.{Codec}
use Rattle.speedy_layout.specs.Format.{Format}
use Rattle.speedy_layout.specs.Lists.{each_as, repeat, vector}
use Rattle.speedy_layout.specs.Numbers.{same_prefixes}
use Rattle.speedy_layout.specs.Owned.{owned_content, borrowed_content}
use Rattle.speedy_layout.specs.Texts.{raw_bytes}
use Rattle.speedy_read.specs.Reading.{ReaderState, Kept, Reads, refusing_kinds}
use Rattle.speedy_read.specs.ReadingLemmas.{Kept-same, KeepsEof, Got-as, IsTold-part, Reads-passed}
use Rattle.speedy_read.specs.WaysOfReading.{Counts, RefusesBufferIf}
use Rattle.speedy.specs.InPlace.{InPlaceCodec}
use Rattle.speedy.specs.EncodedLists.{EncodesItems, IsEncodedList, one_list}
use Rattle.speedy.proofs.EncodedLemmas.{no_bytes}

-- ---- one list of items

-- what encodes a value under a mode encodes it under the order alone
plain_item : {V : Type 0} (codec : Codec V) (order : Endianness) (strict : Bool) (v : V) (b : List ℕ)
    → (codec.format (record { order = order; strict = strict })).encodes v b
    → (codec.format (plain_mode order)).encodes v b
plain_item codec order false v b h = h
plain_item codec order true v b h =
    let written = (codec.laws (strict_mode order)).written_alone refl v b h in
    (codec.laws (plain_mode order)).written_encodes v b ((codec.same_written (strict_mode order) false).too v b written)

pub plain_items : {V : Type 0} (codec : Codec V) (order : Endianness) (strict : Bool) (count : ℕ) (vs : List V)
    (b : List ℕ) → (repeat count (codec.format (record { order = order; strict = strict }))).encodes vs b
    → EncodesItems codec order count vs b
unfolding repeat
plain_items codec order strict count vs b h = (h.0, each_as (plain_item codec order strict) vs b h.1)

-- the list of some bytes is the one whose items they encode
pub list_is : {V : Type 0} (item : InPlaceCodec V) {order other : Endianness} {count number : ℕ}
    {bytes more : List ℕ} (list : IsEncodedList item.codec other number more) → other ≡ order → number ≡ count
    → more ≡ bytes → (vs : List V) → EncodesItems item.codec order count vs bytes → list.0 ≡ vs
list_is item {order} {other} {count} {number} {bytes} {more} list in_order many same vs h =
    one_list item other number more list.0 vs list.1
    ∣ subst (λ o. EncodesItems item.codec o number vs more) (sym in_order)
    (subst (λ n. EncodesItems item.codec order n vs more) (sym many)
    (subst (λ b. EncodesItems item.codec order count vs b) (sym same) h)) ∣₁

-- ---- what is taken and what is refused

-- an end that no device answered is one
ends_still : (by_device : Bool) (kind : ErrorKind) → EndsInput false kind → EndsInput by_device kind
ends_still by_device kinds.UnexpectedEndOfInput h = h
ends_still by_device (kinds.IoError e) h = absurd (true≢false (sym h.0))
ends_still by_device kinds.InvalidChar h = absurd h
ends_still by_device kinds.InvalidEnumVariant h = absurd h
ends_still by_device kinds.InvalidUtf8 h = absurd h
ends_still by_device kinds.InvalidSystemTime h = absurd h
ends_still by_device kinds.ZeroNonZero h = absurd h
ends_still by_device kinds.OutOfRangeLength h = absurd h
ends_still by_device kinds.OutOfRangeUsize h = absurd h
ends_still by_device kinds.UnexpectedEndOfOutputBuffer h = absurd h
ends_still by_device (kinds.InputBufferIsTooSmall actual expected) h = absurd h
ends_still by_device (kinds.OutputBufferIsTooSmall actual expected) h = absurd h
ends_still by_device (kinds.LengthIsNotTheSameAsLengthAttribute field) h = absurd h
ends_still by_device (kinds.ExpectedConstant constant) h = absurd h
ends_still by_device kinds.Unsized h = absurd h
ends_still by_device kinds.EndiannessMismatch h = absurd h
ends_still by_device kinds.NotWrittenForm h = absurd h
ends_still by_device kinds.OutOfMemory h = absurd h
ends_still by_device (kinds.Custom text) h = absurd h

module _ {E : Type 0} {gives : Error → E → Type 0} {eof : E → Bool} {V : Type 0} (F : Format V)
    (n : ℕ) {old new : ReaderState} where
  -- bytes that are there were refused, and so are the items
  pub present_refused : {A B : Type 0} {shows : A → List ℕ} {seen' : B → List V} (size : ℕ)
      → (IsTrue old.fixed.tells → size ≤ length old.remaining) → {e : E} {result : Result B E}
      → IsErrAnd result (λ x. x ≡ e)
      → Reads gives eof shows (borrowed_content (raw_bytes size)) (Err e) old new
      → Reads gives eof seen' (borrowed_content (vector n F)) result old new
  unfolding borrowed_content raw_bytes vector owned_content repeat
  present_refused size there {e = e} passed r = Reads-passed passed (record {
    kept = r.kept;
    answer = elim r.answer [
      | inl x ↦ inl x
      | inr x ↦ inr (record {
        no_fault = x.no_fault;
        kind = elim x.kind [
          | inl ended ↦ inl ended
          | inr named ↦ inr (IsNamed-more gives
              {names = refusing_kinds (borrowed_content (raw_bytes size)) old.fixed.lends}
              {more = refusing_kinds (borrowed_content (vector n F)) old.fixed.lends} e
              (λ kind h. elim h [ inl y ↦ absurd y | inr y ↦ inr y ]) named)
        ];
        because = λ told. absurd ((x.because (IsTold-part (λ _. refl) told)).no_prefix (take size old.remaining)
            (take size old.remaining) (drop size old.remaining) (sym (take-append-drop size old.remaining))
            (refl, length-take-le size old.remaining (there told.tells)));
      })
    ];
  })

  -- items that were measured, and not found
  pub unmeasured : {B : Type 0} {seen' : B → List V} {error : Error} {e : E} {rest : List ℕ}
      → KeepsEof gives eof → gives error e
      → F.asks.memory ≡ false → new ≡ old → rest ≡ old.remaining
      → ((error ≡ error_of kinds.OutOfMemory) × IsTrue (repeat n F).asks.memory)
      ⊎ RefusesBufferIf (λ x y. y ≡ x) is_eof_error (Unit {0}) (repeat n F).names (repeat n F) error rest
      → Reads gives eof seen' (borrowed_content (vector n F)) (Err e) old new
  unfolding borrowed_content vector owned_content repeat
  unmeasured keeps given none same is (inl lacks) = absurd (true≢false (sym lacks.1 ∙ none))
  unmeasured {error = error} {e = e} keeps given none same is (inr x) =
      let become = λ (kind : ErrorKind) (named : error ≡ error_of kind). subst (λ y. gives y e) named given in
      record {
        kept = subst (λ (s : ReaderState). Kept old s) (sym same) Kept-same;
        answer = inr (record {
          no_fault = ap (λ (s : ReaderState). s.faults) same;
          kind = elim x.kind [
            | inl ended ↦ inl (
              (ended.0.0, ends_still old.fixed.ends_by_device ended.0.0 ended.0.1, become ended.0.0 ended.0.2),
              keeps error e given ∙ ended.1,
            )
            | inr named ↦ inr (named.0, inl named.1, become named.0 named.2)
          ];
          because = λ told.
              let un = x.because tt in
              record {
                no_prefix = λ vs prefix more sp h. un.no_prefix vs prefix more (is ∙ sp) h;
                too_short = λ vs more h. keeps error e given
                    ∙ un.too_short vs more (subst (λ b. (repeat n F).encodes vs (b ++ more)) (sym is) h);
                malformed = λ bad. absurd bad;
                wrong_length = λ wrong. absurd wrong;
              };
        });
      }

  module _ {A : Type 0} {shows : A → List ℕ} {x : A} {size : ℕ} (vs : List V) (tells : IsTrue old.fixed.tells)
      (found : Counts ((repeat n F).encodes vs) size old.remaining)
      (r : Reads gives eof shows (borrowed_content (raw_bytes size)) (Ok x) old new) where
    -- as many bytes as the items have are theirs
    pub lent_items : shows x ≡ found.prefix
    unfolding borrowed_content raw_bytes
    lent_items =
        let is = r.answer.prefix_is in
        is.0 ∙ (same_prefixes r.answer.prefix found.prefix new.remaining found.rest (is.1 ∙ found.count_is)
        (sym (r.answer.taken tells) ∙ found.whole_is)).0

    -- and so the items are read
    pub items_taken : {B : Type 0} {seen' : B → List V} {y : B} → seen' y ≡ vs
        → Reads gives eof seen' (borrowed_content (vector n F)) (Ok y) old new
    unfolding borrowed_content raw_bytes vector owned_content
    items_taken {y = y} seen = record {
      kept = r.kept;
      answer = Got-as (λ s h. subst (λ us. (repeat n F).encodes us s) (sym seen)
          (subst ((repeat n F).encodes vs) (sym lent_items ∙ h.0) found.prefix_is)) r.answer;
    }

-- to lend no byte is to do nothing
pub none_lent : {E : Type 0} {gives : Error → E → Type 0} {eof : E → Bool} {A : Type 0} {shows : A → List ℕ} {x : A}
    {old new : ReaderState} → Reads gives eof shows (borrowed_content (raw_bytes 0)) (Ok x) old new → new ≡ old
unfolding borrowed_content raw_bytes
none_lent r = r.answer.untouched (no_bytes r.answer.prefix r.answer.prefix_is.1)

-- so many bytes are there
pub counted_within : {encoded : List ℕ → Type 0} {size : ℕ} {bytes : List ℕ} → Counts encoded size bytes
    → size ≤ length bytes
counted_within found =
    let l = ap length found.whole_is ∙ length-append found.prefix found.rest in omega (arith, l, found.count_is)

-- the same read, of a reader and under a mode that are said in other words
pub restated : {E : Type 0} {gives : Error → E → Type 0} {eof : E → Bool} {V : Type 0} (format : Mode → Format V)
    (n : ℕ) {B : Type 0} {seen' : B → List V} {result : Result B E} {mode other : Mode} {old mid new : ReaderState}
    → mode ≡ other → mid ≡ old → Reads gives eof seen' (borrowed_content (vector n (format mode))) result mid new
    → Reads gives eof seen' (borrowed_content (vector n (format other))) result old new
restated {gives = gives} {eof = eof} format n {seen' = seen'} {result = result} {mode = mode} {old = old} {new = new}
    same is r =
    subst (λ m. Reads gives eof seen' (borrowed_content (vector n (format m))) result old new) same
    (subst (λ s. Reads gives eof seen' (borrowed_content (vector n (format mode))) result s new) is r)
