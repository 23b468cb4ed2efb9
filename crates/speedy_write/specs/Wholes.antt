-- Items that are written until the bytes end.
use Rattle.std.specs.Prelude.{List, [], ◌∷◌}
use Rattle.speedy_layout.specs.Format.{Format}

module _ {A V : Type 0} (seen : A → V) (F : Format V) where
  -- the first item is written in no byte
  abbrev pub TakesNone : List A → Type 0
  TakesNone [] = ⊥
  TakesNone (x ∷ xs) = F.writes (seen x) []

  -- it is not, or there is none
  abbrev pub TakesBytes : List A → Type 0
  TakesBytes [] = Unit {0}
  TakesBytes (x ∷ xs) = F.writes (seen x) [] → ⊥
