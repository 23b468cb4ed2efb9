-- What owns or borrows its content is written as the content.
use Rattle.std.specs.Prelude.{ℕ, List, Result, refl}
use Rattle.speedy_base.specs.declared.error.Error.{Error}
use Rattle.speedy_base.specs.Mode.{Mode}
use Rattle.speedy_layout.specs.Format.{Format}
use Rattle.speedy_layout.specs.Owned.{owned_content, borrowed_content}
use Rattle.speedy_write.specs.Writing.{WriterState, Writes}
use Rattle.speedy_write.specs.Sequences.{Writes-as}

module _ {E : Type 0} {gives : Error → E → Type 0} {V : Type 0} {F : Mode → Format V} {v : V}
    {result : Result (Unit {0}) E} {old new : WriterState} {appended : List ℕ → Type 0} where
  pub owned_written : Writes gives F v result old new appended
      → Writes gives (λ mode. owned_content (F mode)) v result old new appended
  unfolding owned_content
  owned_written w = Writes-as (λ _ k. k) (λ _ h. h) (λ b h. (b, h, refl)) (λ b h. (b, h)) w

  pub borrowed_written : Writes gives F v result old new appended
      → Writes gives (λ mode. borrowed_content (F mode)) v result old new appended
  unfolding borrowed_content
  borrowed_written w = Writes-as (λ _ k. k) (λ _ h. h) (λ b h. (b, h, refl)) (λ b h. (b, h)) w
