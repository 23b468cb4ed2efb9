-- Texts that split at a byte.
use Rattle.std.specs.Prelude.{◌≡◌, ◌≢◌, ℕ, List, ◌∷◌, ◌++◌}
use Rattle.std.specs.List.{AllByRecursion}

-- no byte of the text is this one
abbrev pub IsFreeOf : ℕ → List ℕ → Type 0
IsFreeOf byte text = AllByRecursion (λ b. b ≢ byte) text

-- the text is a prefix without the byte, then the byte, and then the rest
pub record SplitsAt (byte : ℕ) (text prefix rest : List ℕ) : Type 0 where
  pub text_is : text ≡ prefix ++ byte ∷ rest
  pub prefix_is : IsFreeOf byte prefix
