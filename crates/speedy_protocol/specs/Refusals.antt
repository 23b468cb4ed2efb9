-- Bytes that begin with a value, as a message in its frame, and the errors that say why they begin with none.
use Rattle.std.specs.Prelude.{◌≡◌, ℕ, ◌-◌, ◌^◌, ◌<◌, List, ◌++◌, length, IsTrue, ◌⊎◌, Result, IfErr}
use Rattle.speedy.specs.declared.error.Error.{Error}
use Rattle.speedy.specs.declared.error.ErrorKind.TheVariants as kinds
use Rattle.speedy.specs.Codecs.{Codec}
use Rattle.speedy.specs.Error.{error_of, is_eof_error}
use Rattle.speedy.specs.Format.{Format}
use Rattle.speedy.specs.Mode.{Mode}
use Rattle.speedy.specs.Prefixes.{BeginsWithNone}

-- no bytes encode the value that a `usize` counts
abbrev pub HasNone : {V : Type 0} → Format V → V → Type 0
HasNone format v = (bytes : List ℕ) → format.encodes v bytes → length bytes < 2 ^ 64 - 1 → ⊥

-- no prefix of the bytes encodes a value, and one may where more bytes come
abbrev pub MayGrow : {V : Type 0} → Format V → List ℕ → Type 0
MayGrow format bytes = BeginsWithNone format bytes × (format.malformed bytes → ⊥)

-- no prefix of the bytes encodes a value, and none does whatever comes behind them
abbrev pub IsRefused : {V : Type 0} → Format V → List ℕ → Type 0
IsRefused {V = V} format bytes =
    BeginsWithNone format bytes × ((v : V) (more : List ℕ) → format.encodes v (bytes ++ more) → ⊥)

-- the bytes are too few: `size` of them in memory, or those that a device gave
abbrev pub IsShort : Error → Type 0
IsShort e =
    IsTrue (is_eof_error e)
    ⊎ ((actual expected : ℕ) × (e ≡ error_of (kinds.InputBufferIsTooSmall actual expected)))

-- a text is no UTF-8, no message has the tag, or the message does not fill its frame
abbrev pub IsBroken : Error → Type 0
IsBroken e =
    (e ≡ error_of kinds.InvalidUtf8)
    ⊎ ((e ≡ error_of kinds.InvalidEnumVariant) ⊎ (e ≡ error_of kinds.OutOfRangeLength))

-- Why bytes in memory begin with no value of at least so many bytes.
pub record SaysWhy {V : Type 0} (least : ℕ) (format : Format V) (bytes : List ℕ) (e : Error) : Type 0 where
  pub none : BeginsWithNone format bytes
  -- they are too few, or broken
  pub kind : IsShort e ⊎ IsBroken e
  -- they are fewer than the least, and how many is said
  pub too_small : length bytes < least → e ≡ error_of (kinds.InputBufferIsTooSmall (length bytes) least)
  -- where more bytes could make a value of them, they are too few
  pub cut : (v : V) (more : List ℕ) → format.encodes v (bytes ++ more) → IsShort e
  -- where no more bytes could, they are broken
  pub broken : format.malformed bytes → IsBroken e

-- what is refused is a want of memory, for values that take some, or begins with no value
abbrev pub RefusesWhy : {A V : Type 0} → Codec V → Mode → List ℕ → Result A Error → Type 0
RefusesWhy codec mode bytes result =
    let format = codec.format mode in
    IfErr result (λ e. ((e ≡ error_of kinds.OutOfMemory) × IsTrue format.asks.memory)
    ⊎ SaysWhy codec.least format bytes e)
