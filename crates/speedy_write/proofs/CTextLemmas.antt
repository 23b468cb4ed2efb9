-- How bytes are written that end with a NUL: the bytes, of which none is one, and then it.
use Rattle.std.specs.Prelude.{◌≡◌, ℕ, List, [], ◌∷◌, ◌++◌, length, Result, Ok, Err, IsErrAnd, false, refl}
use Rattle.std.specs.Str.{IsUtf8}
use Rattle.std.proofs.Common.{sym, ◌∙◌, ap, ap₂, subst, inl, inr}
use Rattle.speedy_base.specs.declared.error.ErrorKind.TheVariants as kinds
use Rattle.speedy_base.specs.declared.error.Error.{Error}
use Rattle.speedy_base.specs.Error.{error_of}
use Rattle.speedy_layout.specs.CText.{HasNoNul, nul_ended, nul_ended_codec, nul_ended_laws, nul_ended_text_codec}
use Rattle.speedy_layout.specs.Codes.{coding, Accepts-exact_means}
use Rattle.speedy_layout.specs.Format.{Format, Parts-joined, asks_nothing}
use Rattle.speedy_layout.specs.Sequences.{sequence}
use Rattle.speedy_layout.specs.Texts.{raw_bytes, raw_bytes_laws}
use Rattle.speedy_layout.specs.Owned.{owned_content}
use Rattle.speedy_base.specs.Mode.{Mode}
use Rattle.speedy_write.proofs.OwnedLemmas.{owned_written}
use Rattle.speedy_write.proofs.NumberLemmas.{undecodable_refused}
use Rattle.speedy_write.specs.Sequences.{Writes-as, first_refused, form_written, is_sequence, second_written}
use Rattle.speedy_write.specs.Writing.{WriterState, Writes, WritesBytes}

-- the bytes, and one more
abbrev both : List ℕ → Format (List ℕ)
both v = sequence (λ bytes. (bytes, 0 ∷ [])) (raw_bytes (length v)) asks_nothing (λ _. raw_bytes 1)

module _ {E : Type 0} {gives : Error → E → Type 0} {v : List ℕ} {old new : WriterState} where
  -- the bytes and a NUL are written, where they have none
  with_nul : {result : Result (Unit {0}) E} {appended : List ℕ → Type 0} → HasNoNul v
      → Writes gives (λ _. both v) v result old new appended
      → Writes gives nul_ended_codec.format v result old new appended
  unfolding nul_ended sequence raw_bytes
  with_nul none w =
      Writes-as (λ kind h. absurd (elim h [ inl x ↦ x | inr x ↦ x.1 ]))
      (λ b h. (none, h.whole_is ∙ ap₂ ◌++◌ (sym h.first_is.0) (sym h.second_is.0)))
      (λ b h. (v ++ 0 ∷ [], Parts-joined v (0 ∷ []) (refl, refl) (refl, refl), ap length (sym h.1)))
      (λ b h. (v ++ 0 ∷ [], Parts-joined v (0 ∷ []) (refl, refl) (refl, refl))) w

  pub first_bytes_refused : {e : E} {result : Result (Unit {0}) E} {appended : List ℕ → Type 0} → HasNoNul v
      → IsErrAnd result (λ x. x ≡ e) → WritesBytes gives v (Err e) old new appended
      → Writes gives nul_ended_codec.format v result old new appended
  unfolding raw_bytes
  first_bytes_refused none passed w =
      with_nul none (first_refused is_sequence refl passed
      (form_written (λ mode. raw_bytes_laws (length v)) (refl, refl) w))

  pub nul_written : {done : Unit {0}} {result : Result (Unit {0}) E} {mid : WriterState}
      {prefix suffix whole : List ℕ → Type 0} → HasNoNul v
      → ((a b : List ℕ) → prefix a → suffix b → whole (a ++ b)) → WritesBytes gives v (Ok done) old mid prefix
      → WritesBytes gives (0 ∷ []) result mid new suffix
      → Writes gives nul_ended_codec.format v result old new whole
  unfolding raw_bytes
  nul_written none join first second =
      with_nul none (second_written is_sequence refl (λ mode. raw_bytes_laws (length v)) join
      (form_written (λ mode. raw_bytes_laws (length v)) (refl, refl) first)
      (form_written (λ mode. raw_bytes_laws 1) (refl, refl) second))

  -- a text is written as its bytes
  pub text_written : {result : Result (Unit {0}) E} {appended : List ℕ → Type 0} {bytes : List ℕ} → bytes ≡ v
      → IsUtf8 v → Writes gives nul_ended_codec.format bytes result old new appended
      → Writes gives nul_ended_text_codec.format v result old new appended
  unfolding coding nul_ended
  text_written {bytes = bytes} same utf8 w =
      Writes-as (λ kind h. h) (λ b h. record { code = bytes; code_is = h; stands = (same, utf8) })
      (λ b h. (b, subst (λ u. nul_ended.writes u b) (h.stands.0 ∙ sym same) h.code_is, refl))
      (λ b h. (
        b,
        subst (λ u. nul_ended.encodes u b)
            ((Accepts-exact_means old.mode.strict _ _ _ _ h.stands).0 ∙ sym same) h.code_is,
      )) w

-- bytes with a NUL are refused
pub nul_refused : {E : Type 0} {gives : Error → E → Type 0} {v : List ℕ} {e : E} {old : WriterState}
    {appended : List ℕ → Type 0} → (HasNoNul v → ⊥) → gives (error_of kinds.OutOfRangeLength) e → appended []
    → Writes gives nul_ended_codec.format v (Err e) old old appended
unfolding nul_ended
nul_refused some given nothing =
    undecodable_refused (nul_ended_laws {strict = false}) (λ b h. some h.0) (inl given) nothing

-- what is owned is written as the bytes that are seen of it
pub owned_as : {E V : Type 0} {gives : Error → E → Type 0} {F : Mode → Format V} {v w : V}
    {result : Result (Unit {0}) E} {old new : WriterState} {appended : List ℕ → Type 0} → v ≡ w
    → Writes gives F v result old new appended
    → Writes gives (λ mode. owned_content (F mode)) w result old new appended
owned_as {V = V} {gives = gives} {F = F} {result = result} {old = old} {new = new} {appended = appended} same written =
    subst (λ (u : V). Writes gives (λ mode. owned_content (F mode)) u result old new appended) same
    (owned_written written)
