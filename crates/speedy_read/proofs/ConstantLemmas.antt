-- Bytes that are read a chunk at a time and compared with a constant.
use Rattle.std.specs.Prelude.{◌≡◌, ℕ, ◌+◌, ◌<◌, ◌≤◌, List, ◌++◌, length, take, drop, Bool, true, false, IsTrue, ◌⊎◌}
use Rattle.std.specs.Prelude.{◌↔◌, Result, Ok, Err, IsErrAnd, refl}
use Rattle.std.proofs.Common.{sym, ◌∙◌, ap, ap₂, subst, arith, inl, inr}
use Rattle.std.proofs.lemmas.List.{length-append, length-take-le, take_all}
use Rattle.std.proofs.Common.{take-add}
use Rattle.speedy_base.specs.declared.error.Error.{Error}
use Rattle.speedy_base.specs.Mode.{Mode}
use Rattle.speedy_base.specs.Error.{IsNamed, passed_on}
use Rattle.speedy_layout.specs.Codes.{coding, exact_code, Accepts-exact}
use Rattle.speedy_layout.specs.Numbers.{same_prefixes}
use Rattle.speedy_layout.specs.Sequences.{asks_same}
use Rattle.speedy_layout.specs.Texts.{raw_bytes, raw_bytes_laws, any_bytes, IsExpected, constant_bytes}
use Rattle.speedy_read.specs.Reading.{ReaderKind, ReaderState, Excused, IsEnd, Reads}
use Rattle.speedy_read.specs.ReadingLemmas.{ReadSoFar, more_so_far, none_so_far, all_so_far, Got-as, excused_after}
use Rattle.speedy_read.specs.Codes.{Covers, code_means_nothing, refused_covered}
use Rattle.speedy_read.proofs.ByteLemmas.{SkippedSoFar, chunk_refused}

-- from old to mid n bytes were read, which are as far as that the constant or not
abbrev pub ComparedSoFar : List ℕ → ℕ → Bool → ReaderState → ReaderState → Type 0
ComparedSoFar constant at same old mid =
    ReadSoFar (λ s. (length s ≡ at) × (IsTrue same ↔ (s ≡ take at constant))) old mid

pub none_compared : (constant : List ℕ) {old : ReaderState} → ComparedSoFar constant 0 true old old
none_compared constant = none_so_far (refl, (λ _. refl, λ _. refl))

-- what is read where n bytes are skipped
any_covers_constant : (mode : Mode) (constant : List ℕ)
    → Covers (any_bytes (length constant)) (constant_bytes mode constant)
unfolding any_bytes constant_bytes coding raw_bytes
any_covers_constant mode constant = record {
  under = λ v s h. (tt, h.code_is.1);
  names = λ kind h. absurd h;
  malformed = λ bytes are h. elim h [ inl x ↦ absurd x | inr x ↦ inr (tt, x.prefix, x.rest, x.whole_is, x.code_is.1) ];
  wrong_length = λ bytes are h. absurd h;
  asks = asks_same;
}

module _ {E : Type 0} {gives : Error → E → Type 0} {eof : E → Bool} (constant : List ℕ) (at size : ℕ)
    {old mid new : ReaderState} where
  -- a chunk more was read, and compared with the next one of the constant
  pub chunk_compared : {A : Type 0} {seen : A → List ℕ} {x : A} {same still : Bool} {bytes expected : List ℕ} (more : ℕ)
      → size ≡ more → at + more ≤ length constant → ComparedSoFar constant at same old mid
      → Reads gives eof seen (raw_bytes size) (Ok x) mid new
      → bytes ≡ seen x → expected ≡ take more (drop at constant) → (IsTrue still ↔ (IsTrue same × (bytes ≡ expected)))
      → ComparedSoFar constant (at + more) still old new
  unfolding raw_bytes
  chunk_compared {seen = seen} {x = x} more sized within so_far r read is decided =
      more_so_far so_far r (λ s t h k. (
        length-append s t ∙ ap₂ ◌+◌ h.0 (k.1 ∙ sized),
        (
          λ yes.
              let both = decided.0 yes in
              ap₂ ◌++◌ (h.1.0 both.0) (sym k.0 ∙ (sym read ∙ (both.1 ∙ is))) ∙ sym (take-add at more constant),
          λ whole.
              let long = length-take-le at constant (omega (arith, within)) in
              let parts = same_prefixes s (take at constant) t (take more (drop at constant)) (h.0 ∙ sym long)
              (whole ∙ take-add at more constant) in
              decided.1 (h.1.1 parts.0, read ∙ (k.0 ∙ (parts.1 ∙ sym is))),
        ),
      ))

  -- a chunk was refused
  pub comparison_refused : {A B : Type 0} {seen : A → List ℕ} {e : E} {same : Bool} {result : Result B E}
      → at + size ≤ length constant → ComparedSoFar constant at same old mid → IsErrAnd result (λ x. x ≡ e)
      → Reads gives eof seen (raw_bytes size) (Err e) mid new
      → Reads gives eof (λ _. constant) (constant_bytes old.mode constant) result old new
  unfolding constant_bytes
  comparison_refused {e = e} within so_far passed r =
      let skipped : SkippedSoFar at old mid = record { kept = so_far.kept; got = Got-as (λ s h. h.0) so_far.got } in
      let short : Reads gives eof (λ (u : Unit {0}). u) (any_bytes (length constant)) (Err e) old new =
      chunk_refused size at within skipped refl r in
      refused_covered (any_covers_constant old.mode constant) passed short

-- where a chunk is refused, all are, as an end of the bytes
pub chunk_fewer : {E : Type 0} {gives : Error → E → Type 0} {eof : E → Bool} {A B : Type 0}
    {seen : A → List ℕ} (size : ℕ) {encoded : List ℕ → Type 0}
    {old mid new : ReaderState} {e : E} (result : Result B E) → ReadSoFar encoded old mid → IsErrAnd result (λ x. x ≡ e)
    → Reads gives eof seen (raw_bytes size) (Err e) mid new
    → IsErrAnd result (λ e. Excused gives false e old new ⊎ IsEnd gives eof old.fixed.ends_by_device e)
unfolding raw_bytes
chunk_fewer {E = E} {gives = gives} {eof = eof} {B = B} size {old = old} {mid = mid} {new = new} {e = e} result so_far
    passed r =
    subst (λ (x : Result B E). IsErrAnd x (λ e. Excused gives false e old new
    ⊎ IsEnd gives eof old.fixed.ends_by_device e)) (passed_on result e passed)
    (elim r.answer [
      | inl x ↦ inl (excused_after gives false false e old mid new so_far.kept.fixed so_far.got.no_fault (λ t. t) x)
      | inr x ↦ elim x.kind [
        | inl h ↦ inr (subst (λ (kind : ReaderKind). IsEnd gives eof kind.ends_by_device e) so_far.kept.fixed h)
        | inr named ↦ absurd (elim named.1 [ inl h ↦ h | inr h ↦ (let none = h.0 in absurd (cc)) ])
      ]
    ])

-- where n were read, not fewer remained
pub all_there : (constant : List ℕ) {at : ℕ} {same : Bool} {old mid : ReaderState} → at ≡ length constant
    → ComparedSoFar constant at same old mid
    → IsTrue old.fixed.tells → length old.remaining < length constant → ⊥
all_there constant {mid = mid} all so_far told few =
    let whole = ap length (so_far.got.taken told) ∙ length-append so_far.got.prefix mid.remaining in
    let taken = so_far.got.prefix_is.0 in
    omega arith

whole_is : (constant : List ℕ) (at : ℕ) → at ≡ length constant → take at constant ≡ constant
whole_is constant at all = take_all at constant (omega (arith, all))

module _ {E : Type 0} {gives : Error → E → Type 0} {eof : E → Bool} (constant : List ℕ) {at : ℕ} {old new : ReaderState}
    (all : at ≡ length constant) where
  -- all were read, and are the constant
  pub constant_read : {B : Type 0} {x : B} → ComparedSoFar constant at true old new
      → Reads gives eof (λ _. constant) (constant_bytes old.mode constant) (Ok x) old new
  unfolding constant_bytes raw_bytes coding
  constant_read so_far =
      let means : List ℕ → List ℕ → Type 0 = λ u v. (u ≡ v) × (v ≡ constant) in
      all_so_far so_far (λ s h. record {
        code = constant;
        code_is = (sym (h.1.0 refl ∙ whole_is constant at all), h.0 ∙ all);
        stands = Accepts-exact old.mode.strict means (IsExpected constant) constant constant (refl, refl);
      })

  -- all were read, and are others
  pub constant_differs : {B : Type 0} {e : E} → ComparedSoFar constant at false old new
      → IsNamed gives (IsExpected constant) e
      → Reads gives eof (λ (b : B). constant) (constant_bytes old.mode constant) (Err e) old new
  unfolding constant_bytes raw_bytes
  constant_differs so_far named =
      let s = so_far.got.prefix in
      let h = so_far.got.prefix_is in
      let raw : Reads gives eof (λ (u : Unit {0}). s) (raw_bytes (length constant)) (Ok tt) old new = record {
        kept = so_far.kept;
        answer = record {
          prefix = s;
          prefix_is = (refl, h.0 ∙ all);
          taken = so_far.got.taken;
          no_fault = so_far.got.no_fault;
          untouched = so_far.got.untouched;
        };
      } in
      code_means_nothing old.mode (exact_code (λ u v. (u ≡ v) × (v ≡ constant)) (IsExpected constant))
      (raw_bytes_laws (length constant)) (λ v m. m)
      (λ v m. let yes = h.1.1 (m.0 ∙ (m.1 ∙ sym (whole_is constant at all))) in absurd (cc)) named raw
