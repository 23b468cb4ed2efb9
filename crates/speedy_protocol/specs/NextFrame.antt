-- The next frame of a stream.
use Rattle.std.specs.Prelude.{◌≡◌, ℕ, ◌<◌, ◌≤◌, ◌+◌, ◌-◌, ◌^◌, List, [], ◌++◌, length, IsTrue, ◌⊎◌}
use Rattle.std.specs.Prelude.{codes, Option, Some, None}
use Rattle.speedy.specs.declared.error.Error.{Error}
use Rattle.speedy.specs.declared.error.ErrorKind.TheVariants as kinds
use Rattle.speedy.specs.Digits.{AreBytes}
use Rattle.speedy.specs.Error.{error_of, is_eof_error, kind_of, IsCustomOf}
use Rattle.speedy.specs.FailedCalls.{HasGrown}
use Rattle.speedy.specs.Format.{Format}
use Rattle.speedy.specs.Numbers.{unsigned_number}
use Rattle.speedy.specs.Reading.{ReaderState}
use Rattle.speedy.specs.Prefixes.{BeginsWith, BeginsWithNone}

-- The stream tells its bytes, fewer than `usize::MAX` of them, and no call of it failed.
abbrev pub IsClean : ReaderState → ReaderState → Type 0
IsClean old new =
    IsTrue old.fixed.tells × AreBytes old.remaining × (length old.remaining < 2 ^ 64 - 1)
    × (HasGrown old.faults new.faults → ⊥)

-- The next frame is taken whole, and its content has at most `most` bytes; or there is none, where no byte is left.
abbrev pub TakesNext : Format (List ℕ) → ℕ → Option (List ℕ) → ReaderState → ReaderState → Type 0
TakesNext format most None old new = IsClean old new → old.remaining ≡ []
TakesNext format most (Some frame) old new =
    (length frame ≤ 2 + most)
    × (IsTrue old.fixed.tells
    → (content : List ℕ) × format.encodes content frame × (old.remaining ≡ frame ++ new.remaining))

-- Why there is none: memory lacked; a call failed; the stream ended within a frame; or the frame says that its content
-- has more than `most` bytes.
abbrev pub RefusesNext : Format (List ℕ) → ℕ → Error → ReaderState → ReaderState → Type 0
RefusesNext format most e old new =
    (e ≡ error_of kinds.OutOfMemory)
    ⊎ (HasGrown old.faults new.faults
    ⊎ ((IsTrue (is_eof_error e) × (IsClean old new → BeginsWithNone format old.remaining))
    ⊎ (IsCustomOf (codes "a message past the limit") (kind_of e)
    × ((size : ℕ) (rest : List ℕ) → IsTrue old.fixed.tells
    → BeginsWith (unsigned_number 2 old.mode) size old.remaining rest → most < size))))
