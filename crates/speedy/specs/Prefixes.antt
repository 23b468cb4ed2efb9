-- Words for contracts of one's own: bytes that begin with an encoding, values that have one, and what an error says.
use Rattle.std.specs.Prelude.{◌≡◌, ℕ, ◌-◌, ◌^◌, ◌<◌, List, ◌++◌, length, false, IsTrue, ◌⊎◌, Result, Err}
use Rattle.speedy_base.specs.Error.{error_of, Errors}
use Rattle.speedy_base.specs.declared.error.ErrorKind.TheVariants as kinds
use Rattle.speedy_base.specs.Mode.{Mode}
use Rattle.speedy_layout.specs.Codecs.{Codec}
use Rattle.speedy_layout.specs.Format.{Format}
use Rattle.speedy_read.specs.WaysOfReading.{AnswersBuffer}

-- a prefix of the bytes encodes the value, and this is the rest
abbrev pub BeginsWith : {V : Type 0} → Format V → V → List ℕ → List ℕ → Type 0
BeginsWith format v bytes rest = (prefix : List ℕ) × format.encodes v prefix × (bytes ≡ prefix ++ rest)

-- no prefix of the bytes encodes a value
abbrev pub BeginsWithNone : {V : Type 0} → Format V → List ℕ → Type 0
BeginsWithNone {V = V} format bytes = (v : V) (rest : List ℕ) → BeginsWith format v bytes rest → ⊥

-- some bytes encode the value, so few that they can be counted
abbrev pub HasEncoding : {V : Type 0} → Format V → V → Type 0
HasEncoding format v = (bytes : List ℕ) × format.encodes v bytes × (length bytes < 2 ^ 64 - 1)

-- What an error of a function that reads from a buffer means: that no prefix of the bytes encodes a value, or, where
-- values take memory, that it lacked.
pub record RefusedIsNone {E A V : Type 0} (errors : Errors E) (seen : A → V) (codec : Codec V) : Type 0 where
  pub lacks : {mode : Mode} {e : E} {count : ℕ} {bytes : List ℕ}
      → (let refused : Result A E = Err e in AnswersBuffer errors seen codec mode refused count bytes)
      → (errors.from_gives (error_of kinds.OutOfMemory) e × IsTrue (codec.format mode).asks.memory)
      ⊎ BeginsWithNone (codec.format mode) bytes
  pub none : {mode : Mode} {e : E} {count : ℕ} {bytes : List ℕ} → (codec.format mode).asks.memory ≡ false
      → (let refused : Result A E = Err e in AnswersBuffer errors seen codec mode refused count bytes)
      → BeginsWithNone (codec.format mode) bytes
