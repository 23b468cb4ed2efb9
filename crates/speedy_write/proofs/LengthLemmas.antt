-- Parts that tell a length are written, and then a value of that length.
use Rattle.std.specs.Prelude.{ℕ, List, Result, refl}
use Rattle.std.proofs.Common.{inl, inr}
use Rattle.speedy_base.specs.declared.error.Error.{Error}
use Rattle.speedy_base.specs.Mode.{Mode}
use Rattle.speedy_base.specs.declared.error.ErrorKind.{ErrorKind}
use Rattle.speedy_base.specs.Error.{IsNamed, error_of}
use Rattle.speedy_layout.specs.Codecs.{Codec}
use Rattle.speedy_layout.specs.Format.{Format}
use Rattle.speedy_layout.specs.Lengths.{Counting, IsOtherLength, told_length, with_length_codec}
use Rattle.speedy_layout.specs.Sequences.{sequence}
use Rattle.speedy_write.specs.Sequences.{Writes-as}
use Rattle.speedy_write.specs.Writing.{WriterState, Writes}

module _ {E V : Type 0} {gives : Error → E → Type 0} {F : Mode → Format V} {v : V} {old : WriterState}
    {appended : List ℕ → Type 0} where
  -- a value that is written is one of the length that is told
  pub told_length_written : {result : Result (Unit {0}) E} {new : WriterState} (field : List ℕ)
      → Writes gives F v result old new appended
      → Writes gives (λ f. told_length field (F f)) v result old new appended
  told_length_written field w = Writes-as (λ _ k. inr k) (λ b h. h) (λ b h. (b, h, refl)) (λ b h. (b, h)) w

-- a value is refused with a kind of its own where it has another length than is told
pub other_length_named : {E N B V : Type 0} (gives : Error → E → Type 0) (is_told : N → Type 0) (told : N → ℕ)
    (numbers : B → N) (field : List ℕ) (before : Codec B) (counting : Counting V) (f : Mode) (b : B)
    (kind : ErrorKind) {e : E}
    → IsOtherLength field kind → gives (error_of kind) e
    → IsNamed gives ((with_length_codec is_told told numbers field before counting).format f).refuses_writing e
unfolding sequence
other_length_named gives is_told told numbers field before counting f b kind is given = (kind, inr (b, inl is), given)
