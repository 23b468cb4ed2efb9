-- What a read answers is what a line is answered.
use Rattle.std.specs.Prelude.{◌≡◌, ℕ, ◌≤◌, List, ◌⊎◌, length, false, IsTrue, Err}
use Rattle.std.proofs.Common.{sym, ◌∙◌, ap, subst, inl, inr}
use Rattle.std.proofs.lemmas.Bool.{cases_lt}
use Rattle.speedy.specs.declared.error.Error.{Error}
use Rattle.speedy.specs.declared.error.ErrorKind.{ErrorKind}
use Rattle.speedy.specs.declared.error.ErrorKind.TheVariants as kinds
use Rattle.speedy.specs.Error.{IsNamed, kind_of, error_of, is_eof_error}
use Rattle.speedy.specs.ErrorKind.{EndsInput}
use Rattle.speedy.specs.Format.{Format}
use Rattle.speedy.specs.Reading.{IsEnd}
use Rattle.speedy.specs.WaysOfReading.{AnswersBufferIf, RefusesBufferIf}
use Rattle.speedy_lines.specs.Answer.{refused_text, AnswersBytes, AnswersRefusal}

module _ {A V : Type 0} (seen : A → V) (least : ℕ) (L : Format V) (e : Error) (count : ℕ) (bytes answer : List ℕ) where
  its_kind : {names : ErrorKind → Type 0} → IsNamed (λ (x : Error) (y : Error). y ≡ x) names e → names (kind_of e)
  its_kind {names = names} h = subst names (sym (ap kind_of h.2)) h.1

  named_kind : IsEnd (λ (x : Error) (y : Error). y ≡ x) is_eof_error false e
      ⊎ IsNamed (λ (x : Error) (y : Error). y ≡ x) L.names e → EndsInput false (kind_of e) ⊎ L.names (kind_of e)
  named_kind (inl h) = inl (its_kind h.0)
  named_kind (inr h) = inr (its_kind h)

  refusal : (kind_of e ≡ kinds.OutOfMemory → ⊥) → answer ≡ refused_text (kind_of e) → least ≤ length bytes
      → ((e ≡ error_of kinds.OutOfMemory) × IsTrue L.asks.memory)
      ⊎ RefusesBufferIf (λ (x : Error) (y : Error). y ≡ x) is_eof_error (Unit {0}) L.names L e bytes
      → AnswersRefusal least L bytes answer
  refusal memory is enough (inl h) = absurd (memory (ap kind_of h.0))
  refusal memory is enough (inr h) = record {
    kind = kind_of e;
    enough = enough;
    no_prefix = (h.because tt).no_prefix;
    kind_is = named_kind h.kind;
    too_short = (h.because tt).too_short;
    malformed = λ bad. its_kind ((h.because tt).malformed bad);
    answer_is = is;
  }

  -- bytes that are refused, but for want of memory, are answered so
  pub refusal_answers :
      AnswersBufferIf (λ (x : Error) (y : Error). y ≡ x) is_eof_error (Unit {0}) L.names seen least L
      (Err e) count bytes
      → (kind_of e ≡ kinds.OutOfMemory → ⊥) → answer ≡ refused_text (kind_of e) → AnswersBytes least L bytes answer
  refusal_answers h memory is =
      elim (cases_lt (length bytes) least) [
        | inl few ↦ inl (record { fewer = few; answer_is = is ∙ ap refused_text (ap kind_of (h.too_small few).0) })
        | inr enough ↦ inr (inr (refusal memory is enough (h.refused enough)))
      ]
