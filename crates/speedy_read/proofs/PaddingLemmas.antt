-- How bytes that mean nothing are read: whether they are zeros, and what follows from that.
use Rattle.std.specs.Prelude.{◌≡◌, ◌↔◌, ℕ, ◌+◌, ◌-◌, ◌≤◌, List, length, take, drop, Bool, true, false, IsTrue}
use Rattle.std.specs.Prelude.{[], ◌∷◌, Result, Ok, Err, IsErrAnd, refl}
use Rattle.std.proofs.Common.{sym, ◌∙◌, ap, arith, inl, inr}
use Rattle.std.proofs.lemmas.List.{drop-replicate, length-replicate, take-replicate, take_all}
use Rattle.speedy_base.specs.declared.error.ErrorKind.TheVariants as kinds
use Rattle.speedy_base.specs.declared.error.Error.{Error}
use Rattle.speedy_base.specs.Error.{IsNamed, error_of}
use Rattle.speedy_base.specs.Mode.{Mode}
use Rattle.speedy_layout.specs.Codes.{coding}
use Rattle.speedy_layout.specs.Padding.{zeros, padding_code, padding_codec, padding_reads_wider, zeros_code}
use Rattle.speedy_layout.specs.Padding.{zeros_codec}
use Rattle.speedy_layout.specs.Sequences.{asks_same}
use Rattle.speedy_layout.specs.Texts.{raw_bytes, raw_bytes_laws, any_bytes, IsExpected}
use Rattle.speedy_read.proofs.ByteLemmas.{SkippedSoFar, chunk_refused}
use Rattle.speedy_read.proofs.ConstantLemmas.{ComparedSoFar}
use Rattle.speedy_read.specs.Codes.{Covers, code_means_nothing, code_not_written, code_read, refused_covered}
use Rattle.speedy_read.specs.Padding.{zero_test}
use Rattle.speedy_read.specs.Reading.{ReaderState, Reads}
use Rattle.speedy_read.specs.ReadingLemmas.{Got-as, all_so_far}

-- ---- whether all are zeros

any_covers_test : (n : ℕ) → Covers (any_bytes n) (zero_test n)
unfolding any_bytes
any_covers_test n = record {
  under = λ v s h. (tt, h.0);
  names = λ kind h. absurd h;
  malformed = λ bytes are h. absurd h;
  wrong_length = λ bytes are h. absurd h;
  asks = asks_same;
}

-- the next zeros are zeros of a chunk
pub next_zeros : (n at size chunk : ℕ) → at + size ≤ n → size ≤ chunk
    → take size (zeros chunk) ≡ take size (drop at (zeros n))
next_zeros n at size chunk within fits =
    take-replicate size chunk 0 fits
    ∙ sym (ap (take size) (drop-replicate at n 0) ∙ take-replicate size (n - at) 0 (omega arith))

module _ {E : Type 0} {gives : Error → E → Type 0} {eof : E → Bool} (n at : ℕ) {are : Bool}
    {old new : ReaderState} where
  -- all were compared
  pub all_compared : at ≡ n → ComparedSoFar (zeros n) at are old new
      → Reads gives eof (λ (b : Bool). b) (zero_test n) (Ok are) old new
  all_compared all so_far =
      let whole : take at (zeros n) ≡ zeros n =
      take_all at (zeros n) (let l = length-replicate {A = ℕ} n 0 in omega arith) in
      all_so_far so_far (λ s h. (h.0 ∙ all, (λ yes. h.1.0 yes ∙ whole, λ is. h.1.1 (is ∙ sym whole))))

  -- some were refused
  pub test_refused : {A B : Type 0} {seen : A → List ℕ} {seen' : B → Bool} {e : E} {mid : ReaderState}
      {result : Result B E} (size : ℕ) → at + size ≤ n → ComparedSoFar (zeros n) at are old mid
      → IsErrAnd result (λ x. x ≡ e)
      → Reads gives eof seen (raw_bytes size) (Err e) mid new → Reads gives eof seen' (zero_test n) result old new
  test_refused {e = e} {mid = mid} size within so_far passed r =
      let skipped : SkippedSoFar at old mid = record { kept = so_far.kept; got = Got-as (λ s h. h.0) so_far.got } in
      let short : Reads gives eof (λ (u : Unit {0}). u) (any_bytes n) (Err e) old new =
      chunk_refused size at within skipped refl r in
      refused_covered (any_covers_test n) passed short

-- ---- what follows from it

-- any n bytes are zeros or not
tested : (n : ℕ) (s : List ℕ) → length s ≡ n → (are : Bool) × (zero_test n).encodes are s
unfolding raw_bytes
tested n s l =
    let sized = length-replicate {A = ℕ} n 0 in
    elim ((raw_bytes_laws {strict = false} n).tells s (zeros n) s (zeros n) (refl, l) (refl, sized)) [
      | inl e ↦ (true, (l, (λ _. e, λ _. refl)))
      | inr different ↦ (false, (l, (λ f. absurd (cc), λ e. absurd (different e))))
    ]

test_covers_padding : (n : ℕ) (mode : Mode) → Covers (zero_test n) ((padding_codec n).format mode)
unfolding coding raw_bytes
test_covers_padding n mode = record {
  under = λ v s h. tested n s h.code_is.1;
  names = λ kind h. absurd h;
  malformed = λ bytes are h. elim h [
    | inl x ↦ absurd x
    | inr x ↦ let t = tested n x.prefix x.code_is.1 in inr (t.0, x.prefix, x.rest, x.whole_is, t.1)
  ];
  wrong_length = λ bytes are h. absurd h;
  asks = asks_same;
}

test_covers_zeros : (n : ℕ) (mode : Mode) → Covers (zero_test n) ((zeros_codec n).format mode)
unfolding coding raw_bytes
test_covers_zeros n mode = record {
  under = λ v s h. tested n s h.code_is.1;
  names = λ kind h. absurd h;
  malformed = λ bytes are h. elim h [
    | inl x ↦ absurd x
    | inr x ↦ let t = tested n x.prefix x.code_is.1 in inr (t.0, x.prefix, x.rest, x.whole_is, t.1)
  ];
  wrong_length = λ bytes are h. absurd h;
  asks = asks_same;
}

-- the bytes that were tested
raw_of : {E : Type 0} {gives : Error → E → Type 0} {eof : E → Bool} (n : ℕ) {old new : ReaderState} {are : Bool}
    → Reads gives eof (λ (b : Bool). b) (zero_test n) (Ok are) old new
    → (s : List ℕ) × (IsTrue are ↔ (s ≡ zeros n))
    × Reads gives eof (λ (u : Unit {0}). s) (raw_bytes n) (Ok tt) old new
unfolding raw_bytes
raw_of n r = let got = r.answer in (
  got.prefix,
  got.prefix_is.1,
  record {
    kept = r.kept;
    answer = record {
      prefix = got.prefix;
      prefix_is = (refl, got.prefix_is.0);
      taken = got.taken;
      no_fault = got.no_fault;
      untouched = got.untouched;
    };
  },
)

module _ {E : Type 0} {gives : Error → E → Type 0} {eof : E → Bool} (n : ℕ) (mode : Mode) {old new : ReaderState} where
  pub padding_refused : {e : E} {result : Result (Unit {0}) E} → IsErrAnd result (λ x. x ≡ e)
      → Reads gives eof (λ (b : Bool). b) (zero_test n) (Err e) old new
      → Reads gives eof (λ _. n) ((padding_codec n).format mode) result old new
  padding_refused passed r = refused_covered (test_covers_padding n mode) passed r

  -- any bytes are padding, and zeros alone under a demand for the canonical encoding
  pub padding_read : {are : Bool} {y : Unit {0}} → (IsTrue mode.strict → IsTrue are)
      → Reads gives eof (λ (b : Bool). b) (zero_test n) (Ok are) old new
      → Reads gives eof (λ _. n) ((padding_codec n).format mode) (Ok y) old new
  padding_read demanded r =
      let x = raw_of n r in
      code_read mode (padding_code n) refl (λ strict. (refl, x.1.0 (demanded strict))) x.2

  pub padding_not_written : {are : Bool} {e : E} → IsTrue mode.strict → are ≡ false
      → gives (error_of kinds.NotWrittenForm) e → Reads gives eof (λ (b : Bool). b) (zero_test n) (Ok are) old new
      → Reads gives eof (λ (_ : Unit {0}). n) ((padding_codec n).format mode) (Err e) old new
  padding_not_written strict others given r =
      let x = raw_of n r in
      let not : x.0 ≡ zeros n → ⊥ = λ is. let yes = x.1.1 is in absurd (cc) in
      code_not_written mode (padding_code n) (raw_bytes_laws n) (padding_reads_wider n x.0 not) strict
      (λ v h. not h.1) given x.2

  pub zeros_refused : {e : E} {result : Result (Unit {0}) E} → IsErrAnd result (λ x. x ≡ e)
      → Reads gives eof (λ (b : Bool). b) (zero_test n) (Err e) old new
      → Reads gives eof (λ _. n) ((zeros_codec n).format mode) result old new
  zeros_refused passed r = refused_covered (test_covers_zeros n mode) passed r

  -- zeros are zeros, and no other bytes are
  pub zeros_read : {are : Bool} {y : Unit {0}} → IsTrue are
      → Reads gives eof (λ (b : Bool). b) (zero_test n) (Ok are) old new
      → Reads gives eof (λ _. n) ((zeros_codec n).format mode) (Ok y) old new
  zeros_read are r =
      let x = raw_of n r in code_read mode (zeros_code n) (refl, x.1.0 are) (λ _. (refl, x.1.0 are)) x.2

  pub zeros_differ : {are : Bool} {e : E} → are ≡ false → IsNamed gives (IsExpected (0 ∷ [])) e
      → Reads gives eof (λ (b : Bool). b) (zero_test n) (Ok are) old new
      → Reads gives eof (λ (_ : Unit {0}). n) ((zeros_codec n).format mode) (Err e) old new
  zeros_differ others named r =
      let x = raw_of n r in
      code_means_nothing mode (zeros_code n) (raw_bytes_laws n) (λ v h. h)
      (λ v is. let yes = x.1.1 is.1 in absurd (cc)) named x.2
