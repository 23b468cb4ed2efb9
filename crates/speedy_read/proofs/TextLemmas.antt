-- Reads of bytes make reads of texts.
use Rattle.std.specs.Prelude.{◌≡◌, ℕ, List, length, Bool, Result, Ok, Err, MatchResult, refl}
use Rattle.std.proofs.Common.{sym, ◌∙◌, ap, subst, inl, inr}
use Rattle.std.specs.Str.{IsUtf8}
use Rattle.speedy_base.specs.declared.error.ErrorKind.TheVariants as kinds
use Rattle.speedy_base.specs.declared.error.Error.{Error}
use Rattle.speedy_base.specs.Error.{error_of}
use Rattle.speedy_base.specs.Digits.{AreBytes}
use Rattle.speedy_base.specs.DigitsLemmas.{AreBytes-append_parts}
use Rattle.speedy_base.specs.Mode.{Mode}
use Rattle.speedy_layout.specs.Numbers.{unsigned_number}
use Rattle.speedy_layout.specs.Lists.{repeat, vector}
use Rattle.speedy_layout.specs.Owned.{owned_content}
use Rattle.speedy_layout.specs.Codes.{coding, subset, Accepts-exact_means}
use Rattle.speedy_layout.specs.Texts.{raw_bytes, raw_bytes_laws, text_of_length, each_byte, each_byte_is}
use Rattle.speedy_layout.specs.Utf8Lemmas.{AreBytes-utf8}
use Rattle.speedy_layout.specs.Sequences.{asks_same}
use Rattle.speedy_read.specs.Reading.{ReaderState, Reads}
use Rattle.speedy_read.specs.Codes.{Covers, got_covered, exact_code_read, code_means_nothing}
use Rattle.speedy_read.proofs.OwnedLemmas.{owned_read}

-- a text is read as its bytes
pub bytes_cover_text : (n : ℕ) (mode : Mode)
    → Covers (vector n (unsigned_number 1 mode)) (text_of_length mode n)
unfolding vector owned_content repeat unsigned_number text_of_length coding raw_bytes
bytes_cover_text n mode = record {
  under = λ v s h.
      let means = Accepts-exact_means mode.strict _ _ _ _ h.stands in
      let is = sym means.0 ∙ h.code_is.0 in
      (s, (h.code_is.1, each_byte mode.order s (AreBytes-utf8 s (subst IsUtf8 is means.1))));
  names = λ kind h. absurd h;
  malformed = λ bytes are h.
      elim h [
        | inl x ↦ absurd x
        | inr x ↦ inr (
          x.prefix,
          x.prefix,
          x.rest,
          x.whole_is,
          (
            x.code_is.1,
            each_byte mode.order x.prefix (AreBytes-append_parts x.prefix x.rest (subst AreBytes x.whole_is are)).0,
          ),
        )
      ];
  wrong_length = λ bytes are h. absurd h;
  asks = asks_same;
}

-- bytes that were read are a text, or are refused as none
pub text_decides : {E A B : Type 0} {gives : Error → E → Type 0} {eof : E → Bool} {seen : A → List ℕ} {x : A}
    {seen' : B → List ℕ} (n : ℕ) (mode : Mode) {r : Result B E} {old new : ReaderState} {bytes : List ℕ}
    → seen x ≡ bytes
    → MatchResult r (λ t. (seen' t ≡ bytes) × IsUtf8 bytes)
    (λ e. gives (error_of kinds.InvalidUtf8) e × (IsUtf8 bytes → ⊥))
    → Reads gives eof seen (vector n (unsigned_number 1 mode)) (Ok x) old new
    → Reads gives eof seen' (text_of_length mode n) r old new
unfolding vector owned_content repeat unsigned_number text_of_length raw_bytes
text_decides {E = E} {B = B} {gives = gives} {eof = eof} {seen = seen} {x = x} {seen' = seen'} n mode {r = r}
    {old = old} {new = new} {bytes = bytes} same h read =
    owned_read (decided r h) where
      raw : Reads gives eof seen (raw_bytes n) (Ok x) old new
      raw = got_covered
          (λ s k. let is = each_byte_is mode.order (seen x) s k.1 in (is, ap length (sym is) ∙ k.0)) read

      decided : (r : Result B E)
          → MatchResult r (λ t. (seen' t ≡ bytes) × IsUtf8 bytes)
          (λ e. gives (error_of kinds.InvalidUtf8) e × (IsUtf8 bytes → ⊥))
          → Reads gives eof seen' (subset mode IsUtf8 kinds.InvalidUtf8 (raw_bytes n)) r old new
      decided (Ok t) h = exact_code_read _ _ _ (same ∙ sym h.0, subst IsUtf8 (sym h.0) h.1) raw
      decided (Err e) h = code_means_nothing _ _ (raw_bytes_laws n) (λ _ h. h)
          (λ v k. h.1 (subst IsUtf8 (sym k.0 ∙ same) k.1)) (kinds.InvalidUtf8, refl, h.0) raw
