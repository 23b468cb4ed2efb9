-- Whether a NUL stands in the remaining bytes, and where.
use Rattle.std.specs.Prelude.{◌≡◌, ℕ, IsTrue, Option, MatchOption, false}
use Rattle.speedy_layout.specs.CText.{FindsNul}
use Rattle.speedy_read.specs.Reading.{ReaderState}

-- how many of them the first NUL and those before it are, where there is one, of a reader that shows them
abbrev pub FindsNulAhead : Option (Option ℕ) → ReaderState → Type 0
FindsNulAhead answer old =
    MatchOption answer (old.fixed.lends ≡ false) (λ found. IsTrue old.fixed.tells × FindsNul old.remaining found)
