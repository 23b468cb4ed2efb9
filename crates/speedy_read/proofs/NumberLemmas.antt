-- Reads of bytes make reads of numbers of any fixed size.
use Rattle.std.specs.Prelude.{◌≡◌, ℕ, ◌+◌, List, ◌++◌, length, Bool, Ok, Err, Result, IsErrAnd, refl}
use Rattle.std.proofs.Common.{◌∙◌, ap, ap₂, subst, sym, inl, inr}
use Rattle.std.proofs.lemmas.List.{length-append}
use Rattle.speedy_base.specs.declared.error.Error.{Error}
use Rattle.speedy_base.specs.declared.endianness.Endianness.{Endianness}
use Rattle.speedy_base.specs.Digits.{EncodesNumber}
use Rattle.speedy_base.specs.Mode.{Mode}
use Rattle.speedy_layout.specs.FixedNumbers.{IsFixed, encoded_in, size_of_fixed}
use Rattle.speedy_layout.specs.Format.{Format}
use Rattle.speedy_layout.specs.Laws.{Laws}
use Rattle.speedy_layout.specs.Numbers.{unsigned_number}
use Rattle.speedy_layout.specs.Texts.{raw_bytes}
use Rattle.speedy_layout.specs.Sequences.{asks_same, asks_nothing_more, sequence}
use Rattle.speedy_layout.specs.Tuples.{pair}
use Rattle.speedy_read.specs.Reading.{ReaderState, Reads, Peeks}
use Rattle.speedy_read.specs.Codes.{Covers, refused_covered, peek_refused_covered, got_covered, ahead_covered}

-- a number is read as its bytes
pub bytes_cover_digits : (width : ℕ) (mode : Mode) → Covers (raw_bytes width) (unsigned_number width mode)
unfolding raw_bytes unsigned_number
bytes_cover_digits width mode = record {
  under = λ v s h. (s, (refl, h.width_is));
  names = λ kind h. absurd h;
  malformed = λ bytes _ h. absurd h;
  wrong_length = λ bytes _ h. absurd h;
  asks = asks_same;
}

-- two numbers are read as the bytes of both
bytes_cover_two : (m n : ℕ) (mode : Mode)
    → Covers (raw_bytes (m + n)) (pair (unsigned_number m mode) (unsigned_number n mode))
unfolding raw_bytes unsigned_number sequence
bytes_cover_two m n mode = record {
  under = λ v s h. (
    s,
    (refl, ap length h.whole_is ∙ length-append h.prefix h.suffix ∙ ap₂ ◌+◌ h.first_is.width_is h.second_is.width_is),
  );
  names = λ kind h. absurd h;
  malformed = λ bytes _ h.
      elim h [
        | inl k ↦ absurd k
        | inr k ↦ absurd k.1.second_is
      ];
  wrong_length = λ bytes _ h. elim h [ inl k ↦ absurd k | inr k ↦ absurd k.1.second_is ];
  asks = asks_same;
}

two_stand : (m n : ℕ) (mode : Mode) (a b : ℕ) (prefix suffix bytes s : List ℕ)
    → EncodesNumber m mode.order a prefix → EncodesNumber n mode.order b suffix → bytes ≡ prefix ++ suffix
    → (raw_bytes (m + n)).encodes bytes s
    → (pair (unsigned_number m mode) (unsigned_number n mode)).encodes (a, b) s
unfolding raw_bytes unsigned_number sequence
two_stand m n mode a b prefix suffix bytes s first second whole h = record {
  prefix = prefix;
  suffix = suffix;
  whole_is = sym h.0 ∙ whole;
  first_is = first;
  second_is = second;
}

module _ {E : Type 0} {gives : Error → E → Type 0} {eof : E → Bool} {old new : ReaderState} where
  -- where the bytes of two numbers are refused, both numbers are
  pub two_refused : (m n : ℕ) {A B : Type 0} {seen : A → List ℕ} {seen' : B → ℕ × ℕ} {e : E} {result : Result B E}
      → IsErrAnd result (λ x. x ≡ e) → Reads gives eof seen (raw_bytes (m + n)) (Err e) old new
      → Reads gives eof seen' (pair (unsigned_number m old.mode) (unsigned_number n old.mode)) result old new
  two_refused m n passed r = refused_covered (bytes_cover_two m n old.mode) passed r

  -- the numbers that the prefix and the suffix of the bytes encode in the order that the reader has after them
  pub two_read : {m n a b : ℕ} {order : Endianness} {bytes : List ℕ} (prefix suffix : List ℕ) {A : Type 0} {x : A}
      → Reads gives eof (λ _. bytes) (raw_bytes (m + n)) (Ok x) old new → order ≡ new.mode.order
      → bytes ≡ prefix ++ suffix → EncodesNumber m order a prefix → EncodesNumber n order b suffix
      → Reads gives eof (λ p. p) (pair (unsigned_number m old.mode) (unsigned_number n old.mode))
      (Ok (a, b)) old new
  two_read {m = m} {n = n} {a = a} {b = b} {bytes = bytes} prefix suffix r is whole first second =
      let same = is ∙ ap (λ (mode : Mode). mode.order) r.kept.mode in
      got_covered
      (λ s h. two_stand m n old.mode a b prefix suffix bytes s (subst (λ (o : Endianness). EncodesNumber m o a prefix)
      same first) (subst (λ (o : Endianness). EncodesNumber n o b suffix) same second) whole h) r

-- Numbers of a fixed size are read and peeked as their digits.
module _ {V : Type 0} {F : Mode → Format V} {least width : ℕ}
    (laws : (mode : Mode) → Laws mode.strict least (F mode)) (fixed : IsFixed width F) where
  digits_cover : {size : ℕ} → size ≡ width → (mode : Mode) → Covers (raw_bytes size) (F mode)
  unfolding raw_bytes
  digits_cover is mode = record {
    under = λ v s h. (s, (refl, size_of_fixed fixed mode v s h ∙ sym is));
    names = λ kind h. absurd h;
    malformed = λ bytes _ h. absurd (fixed.none_malformed mode bytes h);
    wrong_length = λ bytes _ h.
        absurd (fixed.none_malformed mode bytes ((laws mode).wrong_length_malformed bytes h));
    asks = asks_nothing_more;
  }

  digits_stand : (size : ℕ) {order : Endianness} {mode : Mode} {v : V} {bytes : List ℕ} → order ≡ mode.order
      → encoded_in F order v bytes → (s : List ℕ) → (raw_bytes size).encodes bytes s → (F mode).encodes v s
  unfolding raw_bytes
  digits_stand size {mode = mode} {v = v} {bytes = bytes} same encoded s h =
      let written = fixed.writes mode v bytes (subst (λ (o : Endianness). encoded_in F o v bytes) same encoded) in
      subst ((F mode).encodes v) h.0 ((laws mode).written_encodes v bytes written)

  module _ {E : Type 0} {gives : Error → E → Type 0} {eof : E → Bool} {old new : ReaderState} {A B : Type 0}
      {bytes : List ℕ} {seen : B → V} where
    pub digits_refused : {size : ℕ} {e : E} {result : Result B E} → size ≡ width → IsErrAnd result (λ x. x ≡ e)
        → Reads gives eof (λ (_ : A). bytes) (raw_bytes size) (Err e) old new
        → Reads gives eof seen (F old.mode) result old new
    digits_refused is passed r = refused_covered (digits_cover is old.mode) passed r

    pub digits_read : (size : ℕ) {order : Endianness} {x : A} {y : B} → order ≡ new.mode.order
        → encoded_in F order (seen y) bytes → Reads gives eof (λ (_ : A). bytes) (raw_bytes size) (Ok x) old new
        → Reads gives eof seen (F old.mode) (Ok y) old new
    digits_read size same encoded r =
        got_covered (digits_stand size (same ∙ ap (λ (e : Mode). e.order) r.kept.mode) encoded) r

    pub digits_not_peeked : {size : ℕ} {e : E} {result : Result B E} → size ≡ width → IsErrAnd result (λ x. x ≡ e)
        → Peeks gives eof (λ (_ : A). bytes) (raw_bytes size) (Err e) old new
        → Peeks gives eof seen (F old.mode) result old new
    digits_not_peeked is passed r = peek_refused_covered (digits_cover is old.mode) passed r

    pub digits_peeked : (size : ℕ) {order : Endianness} {x : A} {y : B} → order ≡ new.mode.order
        → encoded_in F order (seen y) bytes → Peeks gives eof (λ (_ : A). bytes) (raw_bytes size) (Ok x) old new
        → Peeks gives eof seen (F old.mode) (Ok y) old new
    digits_peeked size same encoded r =
        ahead_covered (digits_stand size (same ∙ ap (λ (e : Mode). e.order) r.kept.mode) encoded) r
