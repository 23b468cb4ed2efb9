-- What an error of a read of a buffer means.
use Rattle.std.specs.Prelude.{ℕ, List, length, IsTrue, ◌⊎◌, Result, Err}
use Rattle.std.proofs.Common.{ap, ◌∙◌, arith, inl, inr}
use Rattle.std.proofs.lemmas.Bool.{cases_lt}
use Rattle.std.proofs.lemmas.List.{length-append}
use Rattle.speedy_base.specs.Error.{error_of, Errors}
use Rattle.speedy_base.specs.declared.error.ErrorKind.TheVariants as kinds
use Rattle.speedy_base.specs.Mode.{Mode}
use Rattle.speedy_layout.specs.Codecs.{Codec}
use Rattle.speedy_read.specs.WaysOfReading.{AnswersBuffer}
use Rattle.speedy.specs.Prefixes.{BeginsWithNone, RefusedIsNone}

module _ {E A V : Type 0} (errors : Errors E) (seen : A → V) (codec : Codec V) where
  none_or_memory : {mode : Mode} {e : E} {count : ℕ} {bytes : List ℕ}
      → (let refused : Result A E = Err e in AnswersBuffer errors seen codec mode refused count bytes)
      → (errors.from_gives (error_of kinds.OutOfMemory) e × IsTrue (codec.format mode).asks.memory)
      ⊎ BeginsWithNone (codec.format mode) bytes
  none_or_memory {mode = mode} {bytes = bytes} answers =
      elim (cases_lt (length bytes) codec.least) [
        | inl few ↦ inr (λ v rest begins.
            let all = ap length begins.2 ∙ length-append begins.0 rest in
            let enough = (codec.laws mode).least_size v begins.0 begins.1 in
            omega (arith, few, all, enough))
        | inr many ↦ elim (answers.refused (omega (arith, many))) [
          | inl want ↦ inl want
          | inr refused ↦ inr (λ v rest begins. (refused.because tt).no_prefix v begins.0 rest begins.2 begins.1)
        ]
      ]

  pub refused_is_none : RefusedIsNone errors seen codec
  refused_is_none = record {
    lacks = none_or_memory;
    none = λ takes_none answers. elim (none_or_memory answers) [
      | inl want ↦ let taken = want.1 in cc
      | inr none ↦ none
    ];
  }
