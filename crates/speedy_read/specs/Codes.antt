-- How values are read that are encoded as values of another format.
use Rattle.std.specs.Prelude.{◌≡◌, ℕ, List, [], ◌++◌, Bool, true, false, IsTrue, ◌⊎◌, Result, Ok, Err, IsErrAnd, refl}
use Rattle.std.proofs.Common.{sym, ◌∙◌, ap, subst, inl, inr}
use Rattle.std.proofs.lemmas.List.{append_assoc, append-nil}
use Rattle.speedy_base.specs.declared.error.ErrorKind.{ErrorKind}
use Rattle.speedy_base.specs.declared.error.ErrorKind.TheVariants as kinds
use Rattle.speedy_base.specs.declared.error.Error.{Error}
use Rattle.speedy_base.specs.Error.{IsNamed, IsNamed-more, error_of}
use Rattle.speedy_base.specs.Digits.{AreBytes}
use Rattle.speedy_layout.specs.Format.{Format}
use Rattle.speedy_layout.specs.Laws.{Laws}
use Rattle.speedy_layout.specs.Codes.{Codebook, ReadsWider, coding, Accepts, IsDemand, Accepts-is, Accepts-means}
use Rattle.speedy_layout.specs.Codes.{Accepts-demanded, exact_code, length_subset, subset_code}
use Rattle.speedy_layout.specs.Sequences.{AsksAtMost, asks_same}
use Rattle.speedy_read.specs.Reading.{ReaderState, IsTold, refusing_kinds, Undecodable, Reads, Peeks}
use Rattle.speedy_read.specs.ReadingLemmas.{IsTold-part, Reads-passed, Peeks-passed, part_refused, Got-as, Ahead-as}
use Rattle.speedy_base.specs.Mode.{Mode}

-- each encoding of N is one of L too
pub record Covers {U V : Type 0} (L : Format U) (N : Format V) : Type 0 where
  pub under : (v : V) (s : List ℕ) → N.encodes v s → (u : U) × L.encodes u s
  pub names : (kind : ErrorKind) → L.names kind → N.names kind
  -- what is malformed for N is for L too, or stands where L has read a value
  pub malformed : (bytes : List ℕ) → AreBytes bytes → N.malformed bytes
      → L.malformed bytes ⊎ ((u : U) × (prefix rest : List ℕ) × (bytes ≡ prefix ++ rest) × L.encodes u prefix)
  -- and so is a wrong length
  pub wrong_length : (bytes : List ℕ) → AreBytes bytes → N.wrong_length bytes
      → L.wrong_length bytes ⊎ ((u : U) × (prefix rest : List ℕ) × (bytes ≡ prefix ++ rest) × L.encodes u prefix)
  pub asks : AsksAtMost L.asks N.asks

module _ {U V : Type 0} {L : Format U} {N : Format V} (c : Covers L N) {E : Type 0} {gives : Error → E → Type 0}
    {eof : E → Bool} where
  undecodable_covered : {e : E} {old : ReaderState} → IsTold N old
      → (IsTold L old → Undecodable gives eof L e old.remaining)
      → Undecodable gives eof N e old.remaining
  undecodable_covered {e = e} {old = old} told because =
      let un = because (IsTold-part c.asks.lending told) in
      record {
        no_prefix = λ v prefix rest is sp. let h = c.under v prefix sp in un.no_prefix h.0 prefix rest is h.1;
        too_short = λ v more sp. let h = c.under v (old.remaining ++ more) sp in un.too_short h.0 more h.1;
        malformed = λ bad.
            elim (c.malformed old.remaining told.are_bytes bad) [
              | inl h ↦ IsNamed-more gives e c.names (un.malformed h)
              | inr h ↦ absurd (un.no_prefix h.0 h.1 h.2 h.3 h.4)
            ];
        wrong_length = λ wrong.
            elim (c.wrong_length old.remaining told.are_bytes wrong) [
              | inl h ↦ un.wrong_length h
              | inr h ↦ absurd (un.no_prefix h.0 h.1 h.2 h.3 h.4)
            ];
      }

  module _ {A B : Type 0} {seen : A → U} {seen' : B → V} {old new : ReaderState} where
    -- where L is refused, N is
    pub refused_covered : {e : E} {result : Result B E} → IsErrAnd result (λ x. x ≡ e)
        → Reads gives eof seen L (Err e) old new
        → Reads gives eof seen' N result old new
    refused_covered passed r =
        Reads-passed passed (record {
          kept = r.kept;
          answer = part_refused new refl refl c.asks.memory c.asks.lending c.names
              undecodable_covered r.answer;
        })

    pub peek_refused_covered : {e : E} {result : Result B E} → IsErrAnd result (λ x. x ≡ e)
        → Peeks gives eof seen L (Err e) old new
        → Peeks gives eof seen' N result old new
    peek_refused_covered passed r = Peeks-passed passed (record {
      kept = r.kept;
      answer = elim r.answer [
        | inl h ↦ inl h
        | inr h
            ↦ inr (part_refused new refl refl c.asks.memory c.asks.lending c.names undecodable_covered h)
      ];
    })

-- what is read under L stands under N, if its encodings do
module _ {U V : Type 0} {L : Format U} {N : Format V} {E : Type 0} {gives : Error → E → Type 0} {eof : E → Bool}
    {A B : Type 0} {seen : A → U} {seen' : B → V} {x : A} {y : B} {old new : ReaderState}
    (stands : (s : List ℕ) → L.encodes (seen x) s → N.encodes (seen' y) s) where
  pub got_covered : Reads gives eof seen L (Ok x) old new → Reads gives eof seen' N (Ok y) old new
  got_covered r = record { kept = r.kept; answer = Got-as stands r.answer }

  pub ahead_covered : Peeks gives eof seen L (Ok x) old new → Peeks gives eof seen' N (Ok y) old new
  ahead_covered r = record { kept = r.kept; answer = Ahead-as stands r.answer }

-- ---- codes

-- each encoding of a value is one of its code
pub codes_cover : {U V : Type 0} (mode : Mode) (c : Codebook U V) {L : Format U} → Covers L (coding mode c L)
unfolding coding
codes_cover mode c = record {
  under = λ v s h. (h.code, h.code_is);
  names = λ kind h. inl h;
  malformed = λ bytes are h. elim h [ inl x ↦ inl x | inr x ↦ inr (x.code, x.prefix, x.rest, x.whole_is, x.code_is) ];
  wrong_length = λ bytes are h. inl h;
  asks = asks_same;
}

-- bytes at whose start a code stands that is accepted as no value are refused with a kind of the type
pub unaccepted : {E : Type 0} {gives : Error → E → Type 0} {eof : E → Bool} {U V : Type 0} (mode : Mode)
    (c : Codebook U V) {L : Format U} {least : ℕ}
    → Laws mode.strict least L → {u : U} {e : E} {bytes prefix : List ℕ} (rest : List ℕ) → L.encodes u prefix
    → bytes ≡ prefix ++ rest
    → ((v : V) → Accepts mode.strict c u v → ⊥)
    → IsNamed gives (λ kind. c.refusals kind ⊎ IsDemand mode.strict c kind) e
    → Undecodable gives eof (coding mode c L) e bytes
unfolding coding
unaccepted {gives = gives} {U = U} mode c {L = L} laws {u = u} {e = e} {bytes = bytes} {prefix = prefix} rest encoded
    whole nothing named = record {
      no_prefix = λ v s t is h.
          let same = laws.decodes u h.code prefix s rest t encoded h.code_is (sym whole ∙ is) in
          nothing v (subst (λ (u : U). Accepts mode.strict c u v) (sym same.0) h.stands);
      too_short = λ v more h.
          let all = bytes ++ more in
          let joined = sym (append_assoc prefix rest more) ∙ (ap (λ s. s ++ more) (sym whole) ∙ sym (append-nil all)) in
          let same = laws.decodes u h.code prefix all (rest ++ more) [] encoded h.code_is joined in
          absurd (nothing v (subst (λ (u : U). Accepts mode.strict c u v) (sym same.0) h.stands));
      malformed = λ _. IsNamed-more gives
          {more = λ kind. L.names kind ⊎ (c.refusals kind ⊎ IsDemand mode.strict c kind)} e (λ kind h. inr h) named;
      wrong_length = λ wrong.
          let bad = subst L.malformed whole (laws.wrong_length_malformed bytes wrong) in
          absurd (laws.malformed_undecodable u prefix rest bad encoded);
    }

module _ {E : Type 0} {gives : Error → E → Type 0} {eof : E → Bool} {U V : Type 0} (mode : Mode) (c : Codebook U V)
    {L : Format U}
    {A B : Type 0} {seen : A → U} {seen' : B → V} {old new : ReaderState} where
  -- where no code is read, no value is
  pub code_refused : {e : E} {result : Result B E} → IsErrAnd result (λ x. x ≡ e)
      → Reads gives eof seen L (Err e) old new
      → Reads gives eof seen' (coding mode c L) result old new
  code_refused passed r = refused_covered (codes_cover mode c) passed r

  -- the value that the code means is read, where it is chosen for it under a demand for the canonical encoding
  pub code_read : {x : A} {y : B} → c.means (seen x) (seen' y) → (IsTrue mode.strict → c.chosen (seen x) (seen' y))
      → Reads gives eof seen L (Ok x) old new → Reads gives eof seen' (coding mode c L) (Ok y) old new
  unfolding coding
  code_read {x = x} {y = y} means chosen r = got_covered (λ s h. record {
    code = seen x;
    code_is = h;
    stands = Accepts-is mode.strict c (seen x) (seen' y) means chosen;
  }) r

  -- a code that is accepted as no value is refused
  pub code_unaccepted : {least : ℕ} → Laws mode.strict least L → {x : A} {e : E}
      → ((v : V) → Accepts mode.strict c (seen x) v → ⊥)
      → IsNamed gives (λ kind. c.refusals kind ⊎ IsDemand mode.strict c kind) e
      → Reads gives eof seen L (Ok x) old new
      → Reads gives eof seen' (coding mode c L) (Err e) old new
  unfolding coding
  code_unaccepted laws {e = e} nothing named r = record {
    kept = r.kept;
    answer = inr (record {
      no_fault = r.answer.no_fault;
      kind = inr (IsNamed-more gives {more = refusing_kinds (coding mode c L) old.fixed.lends} e
          (λ kind h. inl (inr h)) named);
      because = λ told. unaccepted mode c laws _ r.answer.prefix_is (r.answer.taken told.tells) nothing named;
    });
  }

  -- so is one that means nothing
  pub code_means_nothing : {least : ℕ} → Laws mode.strict least L → {x : A} {e : E}
      → ((v : V) → c.chosen (seen x) v → c.means (seen x) v) → ((v : V) → c.means (seen x) v → ⊥)
      → IsNamed gives c.refusals e
      → Reads gives eof seen L (Ok x) old new → Reads gives eof seen' (coding mode c L) (Err e) old new
  code_means_nothing laws {x = x} {e = e} chosen nothing named r =
      code_unaccepted laws (λ v h. nothing v (Accepts-means mode.strict c (seen x) v (chosen v) h))
      (IsNamed-more gives e (λ kind h. inl h) named) r

  -- and, under a demand for the canonical encoding, one that is chosen for no value
  pub code_not_written : {least : ℕ} → Laws mode.strict least L → {x : A} {e : E} → ReadsWider c
      → IsTrue mode.strict
      → ((v : V) → c.chosen (seen x) v → ⊥) → gives (error_of kinds.NotWrittenForm) e
      → Reads gives eof seen L (Ok x) old new
      → Reads gives eof seen' (coding mode c L) (Err e) old new
  code_not_written laws {x = x} wider strict unchosen given r =
      code_unaccepted laws (λ v h. unchosen v (Accepts-demanded mode.strict c (seen x) v strict h))
      (kinds.NotWrittenForm, inr (strict, refl, wider), given) r

-- a reader that demands the canonical encoding did so before
pub demanded : {old new : Mode} {asked : Bool} → new ≡ old → asked ≡ new.strict → asked ≡ true → IsTrue old.strict
demanded kept is asked = sym (ap (λ (e : Mode). e.strict) kept) ∙ (sym is ∙ asked)

-- a reader that does not demand the canonical encoding did not before
pub not_demanded : {old new : Mode} {asked : Bool} → new ≡ old → asked ≡ new.strict → asked ≡ false
    → IsTrue old.strict → ⊥
not_demanded kept is not_asked strict = let asked_before = ap (λ (e : Mode). e.strict) kept in absurd (cc)

-- of an exact code one fact is enough
pub exact_code_read : {E : Type 0} {gives : Error → E → Type 0} {eof : E → Bool} {U V : Type 0} (mode : Mode)
    (means : U → V → Type 0) (refusals : ErrorKind → Type 0) {L : Format U}
    {A B : Type 0} {seen : A → U} {seen' : B → V} {old new : ReaderState} {x : A} {y : B}
    → means (seen x) (seen' y)
    → Reads gives eof seen L (Ok x) old new
    → Reads gives eof seen' (coding mode (exact_code means refusals) L) (Ok y) old new
exact_code_read mode means refusals h r = code_read mode (exact_code means refusals) h (λ _. h) r

-- ---- values that a length is told of

-- what is refused as a length that is out of range is refused so whichever lengths are wrong
pub refused_as_length : {E : Type 0} {gives : Error → E → Type 0} {eof : E → Bool} {V : Type 0} {F : Format V}
    {A : Type 0} {seen : A → V} {e : E} {old new : ReaderState} (wrong : List ℕ → Type 0)
    → gives (error_of kinds.OutOfRangeLength) e → Reads gives eof seen F (Err e) old new
    → Reads gives eof seen (record F { wrong_length = wrong }) (Err e) old new
refused_as_length wrong given r = record {
  kept = r.kept;
  answer = elim r.answer [
    | inl h ↦ inl h
    | inr h ↦ inr (record {
      no_fault = h.no_fault;
      kind = h.kind;
      because = λ told.
          let un = h.because (IsTold-part (λ t. t) told) in
          record {
            no_prefix = un.no_prefix;
            too_short = un.too_short;
            malformed = un.malformed;
            wrong_length = λ _. given;
          };
    })
  ];
}

pub lengths_cover : {V : Type 0} (mode : Mode) (pass : V → Type 0) {L : Format V} → Covers L (length_subset mode pass L)
unfolding coding
lengths_cover mode pass = record {
  under = λ v s h. (h.code, h.code_is);
  names = λ kind h. inl h;
  malformed = λ bytes are h. elim h [ inl x ↦ inl x | inr x ↦ inr (x.code, x.prefix, x.rest, x.whole_is, x.code_is) ];
  wrong_length = λ bytes are h.
      elim h [ inl x ↦ inl x | inr x ↦ inr (x.code, x.prefix, x.rest, x.whole_is, x.code_is) ];
  asks = asks_same;
}

module _ {E : Type 0} {gives : Error → E → Type 0} {eof : E → Bool} {V : Type 0} (mode : Mode) (pass : V → Type 0)
    {L : Format V} {A B : Type 0} {seen : A → V} {seen' : B → V} {old new : ReaderState} where
  -- where no value is read, none that passes is
  pub length_refused : {e : E} {result : Result B E} → IsErrAnd result (λ x. x ≡ e)
      → Reads gives eof seen L (Err e) old new → Reads gives eof seen' (length_subset mode pass L) result old new
  length_refused passed r = refused_covered (lengths_cover mode pass) passed r

  -- one that passes is read
  pub length_read : {x : A} {y : B} → (seen x ≡ seen' y) × pass (seen' y) → Reads gives eof seen L (Ok x) old new
      → Reads gives eof seen' (length_subset mode pass L) (Ok y) old new
  length_read {y = y} h r =
      let code = subset_code pass kinds.OutOfRangeLength in
      let read : Reads gives eof seen' (coding mode code L) (Ok y) old new = code_read mode code h (λ _. h) r in
      got_covered (λ s k. k) read

  -- and one that does not is refused
  pub length_unread : {least : ℕ} → Laws mode.strict least L → {x : A} {e : E} → (pass (seen x) → ⊥)
      → gives (error_of kinds.OutOfRangeLength) e → Reads gives eof seen L (Ok x) old new
      → Reads gives eof seen' (length_subset mode pass L) (Err e) old new
  length_unread laws {x = x} not given r =
      refused_as_length (length_subset mode pass L).wrong_length given
      (code_means_nothing mode (subset_code pass kinds.OutOfRangeLength) laws (λ v h. h)
      (λ v h. not (subst pass (sym h.0) h.1)) (kinds.OutOfRangeLength, refl, given) r)
