-- Refusals, seen by their kinds.
use Rattle.std.specs.Prelude.{◌≡◌, ℕ, List, Bool, Result, Ok, Err, IsErrAnd}
use Rattle.std.proofs.Common.{sym, ap}
use Rattle.std.specs.String.{string_bytes}
use Rattle.std.specs.declared.io.Error.{Error as StdIoError}
use Rattle.speedy_base.specs.declared.error.ErrorKind.{ErrorKind}
use Rattle.speedy_base.specs.declared.error.ErrorKind.TheVariants as kinds
pub use Rattle.speedy_base.specs.declared.error.Error.{Error}
use Rattle.speedy_base.specs.ErrorKind.{is_eof_kind}

-- the kind of a refusal
abbrev pub kind_of : Error → ErrorKind
kind_of e = e.kind

-- the refusal of a kind
abbrev pub error_of : ErrorKind → Error
error_of kind = record { kind = kind }

-- the refusal says that the bytes ended too soon
abbrev pub is_eof_error : Error → Bool
is_eof_error e = is_eof_kind e.kind

-- a user's refusal with this text, or that the text found no memory
abbrev pub IsCustomOf : List ℕ → ErrorKind → Type 0
IsCustomOf text (kinds.Custom t) = string_bytes t ≡ text
IsCustomOf text kinds.OutOfMemory = Unit {0}
IsCustomOf text _ = ⊥

-- the refusal of a device's failed call, or that its box found no memory
abbrev pub IsIoErrorOf : StdIoError → ErrorKind → Type 0
IsIoErrorOf error (kinds.IoError boxed) = boxed.value ≡ error
IsIoErrorOf error kinds.OutOfMemory = Unit {0}
IsIoErrorOf error _ = ⊥

-- a refusal that `?` passes on as it is
pub passed_on : {T E : Type 0} (result : Result T E) (e : E) → IsErrAnd result (λ x. x ≡ e) → Err e ≡ result
passed_on (Ok t) e h = absurd h
passed_on (Err x) e h = ap (λ y. Err y) (sym h)

-- What `C.Error.IsEof` tells of the errors of a context: which refusal becomes which of them, and which say that the
-- bytes ended too soon.
abbrev pub Errors : Type 0 → Type 1
Errors E = record { from_gives : Error → E → Type 0; eof : E → Bool }

-- an error that a refusal of a named kind became
abbrev pub IsNamed : {E : Type 0} → (Error → E → Type 0) → (ErrorKind → Type 0) → E → Type 0
IsNamed gives names e = (kind : ErrorKind) × names kind × gives (error_of kind) e

-- what is of a named kind is of one that more names have
pub IsNamed-more : {E : Type 0} (gives : Error → E → Type 0) {names more : ErrorKind → Type 0} (e : E)
    → ((kind : ErrorKind) → names kind → more kind) → IsNamed gives names e → IsNamed gives more e
IsNamed-more gives e f n = (n.0, f n.0 n.1, n.2)
