use Rattle.std.specs.Prelude.{◌≡◌, ℕ, ◌≤◌, List, length, Result, Err}
use Rattle.std.proofs.Common.{refl, arith, ap, ◌∙◌, inl, inr}
use Rattle.std.proofs.lemmas.List.{length-append}
use Rattle.speedy.specs.Codes.{coding}
use Rattle.speedy.specs.Error.{error_of, is_eof_error, passed_on}
use Rattle.speedy.specs.declared.error.Error.{Error}
use Rattle.speedy.specs.declared.error.ErrorKind.TheVariants as kinds
use Rattle.speedy.specs.Format.{Format}
use Rattle.speedy.specs.Numbers.{unsigned_number}
use Rattle.speedy.specs.Sequences.{sequence}
use Rattle.speedy.specs.Texts.{text}
use Rattle.speedy.specs.Tuples.{unit}
use Rattle.speedy.specs.WaysOfReading.{AnswersBufferIf}
use Rattle.speedy_examples.specs.Callers.{HasPrefix, itself}
use Rattle.speedy_examples.proofs.memory.again_the_same_bytes.Goals as goal

-- bytes that begin with an encoding are refused only for want of memory
only_memory : {A V : Type 0} {seen : A → V} {least : ℕ} {L : Format V} {e : Error} {count : ℕ} {bytes : List ℕ}
    → ((v : V) (prefix : List ℕ) → L.encodes v prefix → least ≤ length prefix) → HasPrefix L bytes
    → (let refused : Result A Error = Err e in
    AnswersBufferIf itself is_eof_error (Unit {0}) L.names seen least L refused count bytes)
    → e ≡ error_of kinds.OutOfMemory
only_memory above (v, prefix, rest, encoded, whole) answers =
    let size = ap length whole ∙ length-append prefix rest in
    let enough = above v prefix encoded in
    elim (answers.refused (omega arith)) [
      | inl memory ↦ memory.0
      | inr refused ↦ absurd ((refused.because tt).no_prefix v prefix rest whole encoded)
    ]

pub returns-in_err-value-clause-refused : goal.returns-in_err-value-clause-refused
returns-in_err-value-clause-refused c =
    λ begins. rw (← passed_on _ _ c.from_residual.ensures.1)
    (only_memory (c.no_encoding_is_below_least.ensures _) begins c.in_err-value.ensures.1)

pub returns-clause-same : goal.returns-clause-same
unfolding sequence coding unsigned_number unit text
returns-clause-same c =
    let read = c.in_ok-value.ensures.1.value in
    let same = c.canonical_alone.ensures.same _ _ read.prefix _ refl refl read.prefix_is
    c.in_ok-written.ensures.written.is_written in
    rw (← same) (_, read.rest, read.prefix_is, read.whole_is)
