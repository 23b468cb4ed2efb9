-- Which bytes stand for which values.
use Rattle.std.specs.Prelude.{◌≡◌, ℕ, List, [], ◌∷◌, ◌++◌, Bool, false, ◌||◌, refl}
use Rattle.speedy_base.specs.declared.error.ErrorKind.{ErrorKind}
use Rattle.speedy_base.specs.declared.error.ErrorKind.TheVariants as kinds

-- What a format asks beside its bytes.
pub record Asks : Type 0 where
  -- values that borrow, and so can be read only from a reader that lends
  pub lending : Bool
  -- a part has no order of its own, so that several encodings may be written
  pub hashed : Bool
  -- reading a value asks for memory
  pub memory : Bool

abbrev pub asks_nothing : Asks
asks_nothing = record { lending = false; hashed = false; memory = false }

-- what either of two asks
abbrev pub either_asks : Asks → Asks → Asks
either_asks a b = record {
  lending = a.lending || b.lending;
  hashed = a.hashed || b.hashed;
  memory = a.memory || b.memory;
}

-- The format of a type: a whole value is encoded by a whole list of bytes.
pub record Format (V : Type 0) : Type 1 where
  -- the bytes encode the value
  pub encodes : V → List ℕ → Type 0
  -- the canonical encodings: those that are written, and that a strict mode accepts
  pub writes : V → List ℕ → Type 0
  -- the kinds of refusals that the type adds itself in reading, and those of its parts
  pub names : ErrorKind → Type 0
  -- the kinds of refusals that the type adds itself in writing, and those of its parts; of the listed types none
  pub refuses_writing : ErrorKind → Type 0
  -- bytes at whose start stands what the type itself refuses
  pub malformed : List ℕ → Type 0
  -- those at whose start a length stands that is wrong, which is refused as out of range
  pub wrong_length : List ℕ → Type 0
  pub asks : Asks

-- a format whose encodings are all written, and which refuses nothing itself and asks for nothing
abbrev pub plain_format : {V : Type 0} → (V → List ℕ → Type 0) → Format V
plain_format encodes = record {
  encodes = encodes;
  writes = encodes;
  names = λ _. ⊥;
  refuses_writing = λ _. ⊥;
  malformed = λ _. ⊥;
  wrong_length = λ _. ⊥;
  asks = asks_nothing;
}

-- the bytes are two parts, one after the other
pub record Parts (first second : List ℕ → Type 0) (bytes : List ℕ) : Type 0 where
  pub prefix : List ℕ
  pub suffix : List ℕ
  pub whole_is : bytes ≡ prefix ++ suffix
  pub first_is : first prefix
  pub second_is : second suffix

-- and two parts make such bytes
abbrev pub Parts-joined : {first second : List ℕ → Type 0} (prefix suffix : List ℕ) → first prefix → second suffix
    → Parts first second (prefix ++ suffix)
Parts-joined prefix suffix first_is second_is = record {
  prefix = prefix;
  suffix = suffix;
  whole_is = refl;
  first_is = first_is;
  second_is = second_is;
}

-- the bytes are an encoding of each item, one after the other
abbrev pub Each : {V : Type 0} → (V → List ℕ → Type 0) → List V → List ℕ → Type 0
Each encodes [] bytes = bytes ≡ []
Each encodes (v ∷ vs) bytes = Parts (encodes v) (Each encodes vs) bytes

-- a kind that a type may name: an end of input, a buffer that is too small, want of memory and a device's failure are
-- no type's
abbrev pub IsOwnKind : ErrorKind → Type 0
IsOwnKind kinds.UnexpectedEndOfInput = ⊥
IsOwnKind kinds.UnexpectedEndOfOutputBuffer = ⊥
IsOwnKind (kinds.InputBufferIsTooSmall actual expected) = ⊥
IsOwnKind (kinds.OutputBufferIsTooSmall actual expected) = ⊥
IsOwnKind (kinds.IoError e) = ⊥
IsOwnKind kinds.OutOfMemory = ⊥
IsOwnKind _ = Unit {0}
