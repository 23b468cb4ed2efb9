-- Words of the callers' contracts: which bytes begin with an encoding, and which errors say that none is there.
use Rattle.std.specs.Prelude.{◌≡◌, ℕ, List, ◌++◌, ◌⊎◌}
use Rattle.std.specs.declared.io.Error.{Error as StdIoError}
use Rattle.speedy.specs.Error.{error_of, IsNamed}
use Rattle.speedy.specs.FailedCalls.{IsErrorOf}
use Rattle.speedy.specs.Format.{Format}
use Rattle.speedy.specs.declared.error.Error.{Error}
use Rattle.speedy.specs.declared.error.ErrorKind.TheVariants as kinds

-- a prefix of the bytes encodes some value
abbrev pub HasPrefix : {V : Type 0} → Format V → List ℕ → Type 0
HasPrefix {V = V} format bytes =
    (v : V) × (prefix : List ℕ) × (rest : List ℕ) × format.encodes v prefix × (bytes ≡ prefix ++ rest)

-- an error of the crate becomes no other one
abbrev pub itself : Error → Error → Type 0
itself error e = e ≡ error

-- out of memory, or the error of a device
abbrev pub IsFailure : Error → Type 0
IsFailure e = (e ≡ error_of kinds.OutOfMemory) ⊎ ((error : StdIoError) × IsErrorOf itself error e)

-- of a kind that the type names, or that says that the bytes ended too soon, or that the values are too many
abbrev pub IsRefusal : {V : Type 0} → Format V → Error → Type 0
IsRefusal format e =
    IsNamed itself format.names e ⊎ (e ≡ error_of kinds.UnexpectedEndOfInput) ⊎ (e ≡ error_of kinds.OutOfRangeLength)
