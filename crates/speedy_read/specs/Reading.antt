-- What a read does.
use Rattle.std.specs.Prelude.{◌≡◌, ℕ, ℤ, ◌≤◌, ◌<◌, ◌-◌, ◌^◌, List, [], ◌++◌, length, Bool, true, false, IsTrue, ◌⊎◌}
use Rattle.std.specs.Prelude.{◌↔◌, Option, Some, MatchOption, Result, MatchResult, IsErrAnd}
use Rattle.std.specs.Borrow.{GName}
use Rattle.std.specs.Int.{Width}
use Rattle.speedy_base.specs.declared.error.ErrorKind.{ErrorKind}
use Rattle.speedy_base.specs.declared.error.ErrorKind.TheVariants as kinds
use Rattle.speedy_base.specs.declared.error.Error.{Error}
use Rattle.speedy_base.specs.Error.{error_of, Errors, IsNamed}
use Rattle.speedy_base.specs.ErrorKind.{EndsInput}
use Rattle.speedy_base.specs.declared.device.Faults.{Faults}
use Rattle.speedy_base.specs.FailedCalls.{IsOfFault}
use Rattle.speedy_base.specs.Device.{SourceState}
use Rattle.speedy_base.specs.Digits.{AreBytes}
use Rattle.speedy_base.specs.Mode.{Mode}
use Rattle.speedy_layout.specs.Codecs.{Codec, unsigned_codec, signed_codec, raw_bytes_codec}
use Rattle.speedy_layout.specs.Format.{Format}
use Rattle.speedy_layout.specs.Texts.{raw_bytes, any_bytes}

-- What the kind of a reader fixes.
pub record ReaderKind : Type 0 where
  -- its device tells the remaining bytes
  pub tells : Bool
  -- it lends parts of its bytes
  pub lends : Bool
  -- it reads ahead of what is asked
  pub buffers : Bool
  -- its reads may ask for memory
  pub asks_memory : Bool
  -- its peeks may ask for memory
  pub peeks_ask_memory : Bool
  -- an end of its bytes may be answered as the device's own, an `IoError`, and not only as
  -- `UnexpectedEndOfInput`
  pub ends_by_device : Bool
  -- a refusal that a failed call of its device caused says what that call answered
  pub tells_faults : Bool
  -- the `&mut`s that it holds
  pub targets : List GName

-- A reader, as reads see it.
pub record ReaderState : Type 0 where
  pub fixed : ReaderKind
  -- the remaining bytes, where the device tells them: those that it holds, and then those of its source
  pub remaining : List ℕ
  -- its source, as it stands; of a reader that has none always the same
  pub source : SourceState
  -- it holds no more of a source's bytes than its way of reading allows
  pub tidy : Bool
  -- what its context asks of the bytes
  pub mode : Mode
  -- its device's failed calls
  pub faults : Faults

-- what every read keeps, a refused one too
pub record Kept (old new : ReaderState) : Type 0 where
  pub fixed : new.fixed ≡ old.fixed
  pub mode : new.mode ≡ old.mode
  pub tidy : IsTrue old.tidy → IsTrue new.tidy
  pub faults : old.faults.count ≤ new.faults.count
  -- what remains is a tail of what remained
  pub tail : IsTrue old.fixed.tells → (prefix : List ℕ) × (old.remaining ≡ prefix ++ new.remaining)

-- what every peek keeps: the remaining bytes too, but not that the reader is tidy
pub record KeptByPeek (old new : ReaderState) : Type 0 where
  pub fixed : new.fixed ≡ old.fixed
  pub mode : new.mode ≡ old.mode
  pub faults : old.faults.count ≤ new.faults.count
  pub remaining : IsTrue old.fixed.tells → new.remaining ≡ old.remaining

-- a prefix of the remaining bytes that is encoded so, and just it was taken, by calls of the device that did not fail
pub record Got (encoded : List ℕ → Type 0) (old new : ReaderState) : Type 0 where
  pub prefix : List ℕ
  pub prefix_is : encoded prefix
  pub taken : IsTrue old.fixed.tells → old.remaining ≡ prefix ++ new.remaining
  pub no_fault : new.faults ≡ old.faults
  -- to take no byte is to do nothing
  pub untouched : prefix ≡ [] → new ≡ old

-- a prefix of the remaining bytes that is encoded so, as calls of the device showed that did not fail
pub record Ahead (encoded : List ℕ → Type 0) (old new : ReaderState) : Type 0 where
  pub prefix : List ℕ
  pub rest : List ℕ
  pub prefix_is : encoded prefix
  pub stands : IsTrue old.fixed.tells → old.remaining ≡ prefix ++ rest
  pub no_fault : new.faults ≡ old.faults

-- the bytes are told, fewer than `usize::MAX` of them, and lent where the type needs it
pub record IsTold {V : Type 0} (L : Format V) (old : ReaderState) : Type 0 where
  pub tells : IsTrue old.fixed.tells
  pub are_bytes : AreBytes old.remaining
  pub fit : length old.remaining < 2 ^ 64 - 1
  pub lends : IsTrue L.asks.lending → IsTrue old.fixed.lends

-- The kinds that a read of a format's values is refused with, from a reader that lends or does not: those that the
-- format names and, where nothing is lent, `Unsized` for values that borrow.
abbrev pub refusing_kinds : {V : Type 0} → Format V → Bool → ErrorKind → Type 0
refusing_kinds L lends kind = L.names kind ⊎ (IsTrue L.asks.lending × (lends ≡ false) × (kind ≡ kinds.Unsized))

-- want of memory, where memory may be asked for and no call of the device failed, or a failed call of the device
abbrev pub Excused : {E : Type 0} → (Error → E → Type 0) → Bool → E → ReaderState → ReaderState → Type 0
Excused gives takes e old new =
    (gives (error_of kinds.OutOfMemory) e
    × (IsTrue takes ⊎ IsTrue old.fixed.asks_memory)
    × (new.faults ≡ old.faults))
    ⊎ IsOfFault gives old.fixed.tells_faults e old.faults new.faults

-- want of memory, where a peek may ask for it and no call of the device failed
abbrev pub PeekWants : {E : Type 0} → (Error → E → Type 0) → E → ReaderState → ReaderState → Type 0
PeekWants gives e old new =
    gives (error_of kinds.OutOfMemory) e × IsTrue old.fixed.peeks_ask_memory × (new.faults ≡ old.faults)

-- no value shows a byte
abbrev pub ShowsNothing : {A : Type 0} → (A → List ℕ) → Type 0
ShowsNothing {A = A} shows = (x : A) → shows x ≡ []

module _ {E : Type 0} (gives : Error → E → Type 0) (eof : E → Bool) where
  -- the bytes ended, as the reader says it
  abbrev pub IsEnd : Bool → E → Type 0
  IsEnd by_device e = IsNamed gives (EndsInput by_device) e × IsTrue (eof e)

  -- the remaining bytes encode no value at their start, and the error says whether they may begin an encoding
  pub record Undecodable {V : Type 0} (L : Format V) (e : E) (bytes : List ℕ) : Type 0 where
    pub no_prefix : (v : V) (prefix rest : List ℕ) → bytes ≡ prefix ++ rest → L.encodes v prefix → ⊥
    pub too_short : (v : V) (more : List ℕ) → L.encodes v (bytes ++ more) → IsTrue (eof e)
    pub malformed : L.malformed bytes → IsNamed gives L.names e
    pub wrong_length : L.wrong_length bytes → gives (error_of kinds.OutOfRangeLength) e

  -- a clean refusal
  pub record Refused {V : Type 0} (L : Format V) (e : E) (old new : ReaderState) : Type 0 where
    pub no_fault : new.faults ≡ old.faults
    pub kind : IsEnd old.fixed.ends_by_device e ⊎ IsNamed gives (refusing_kinds L old.fixed.lends) e
    pub because : IsTold L old → Undecodable L e old.remaining

  -- A read of a format's values. A value that is answered is encoded by a prefix of the remaining bytes, and just that
  -- prefix is taken. A clean refusal means that no prefix encodes any value.
  pub record Reads {A V : Type 0} (seen : A → V) (L : Format V) (result : Result A E)
      (old new : ReaderState) : Type 0 where
    pub kept : Kept old new
    pub answer : MatchResult result (λ x. Got (L.encodes (seen x)) old new)
        (λ e. Excused gives L.asks.memory e old new ⊎ Refused L e old new)

  -- A peek of a format's values: as the read, but nothing is taken, and it may want memory where the read does not.
  pub record Peeks {A V : Type 0} (seen : A → V) (L : Format V) (result : Result A E)
      (old new : ReaderState) : Type 0 where
    pub kept : KeptByPeek old new
    pub answer : MatchResult result (λ x. Ahead (L.encodes (seen x)) old new)
        (λ e. PeekWants gives e old new ⊎ (Excused gives L.asks.memory e old new ⊎ Refused L e old new))

-- what a reader says of the number of remaining bytes is right
abbrev pub IsRight : Option Bool → ReaderState → ℕ → Type 0
IsRight answer old n =
    (b : Bool) → answer ≡ Some b → IsTrue old.fixed.tells → IsTrue b ↔ (n ≤ length old.remaining)

-- the reader tells its bytes, and at least n remain
abbrev pub Expects : ReaderState → ℕ → Type 0
Expects old n = IsTrue old.fixed.tells × (n ≤ length old.remaining)

-- what is lent shows all remaining bytes, and all are taken; or nothing is lent, and none is taken
abbrev pub LendsAll : {A : Type 0} → (A → List ℕ) → Option A → ReaderState → ReaderState → Type 0
LendsAll shows lent old new =
    Kept old new
    × MatchOption lent (new ≡ old) (λ x. IsTrue old.fixed.tells → (shows x ≡ old.remaining) × (new.remaining ≡ []))

-- all remaining bytes are shown, of a reader that holds them; one that lends does
abbrev pub ShowsAll : {A : Type 0} → (A → List ℕ) → Option A → ReaderState → Type 0
ShowsAll shows shown old =
    MatchOption shown (old.fixed.lends ≡ false) (λ x. IsTrue old.fixed.tells × (shows x ≡ old.remaining))

-- an error of one value, which stands for the end of the bytes
abbrev pub ends_alone : {E : Type 0} → Error → E → Type 0
ends_alone error _ = error ≡ error_of kinds.UnexpectedEndOfInput

-- What a read answers that lends bytes until the reader is used again: as a read of n bytes, refused by the one
-- error that says that they ended; or nothing is lent, and none is taken.
abbrev pub LendsUntilUsed : {A E : Type 0} → (A → List ℕ) → ℕ → Option (Result A E) → ReaderState → ReaderState → Type 0
LendsUntilUsed shows n lent old new =
    MatchOption lent (new ≡ old) (λ result. Reads ends_alone (λ _. true) shows (raw_bytes n) result old new)

-- ---- the words of contracts

-- They take what is known of the errors, `C.Error.IsEof`, how reads see a reader, `R.state`, and last the reader before
-- and behind. Values are of the format under the mode that the reader has.
module _ {E S : Type 0} (errors : Errors E) (state : S → ReaderState) where
  -- a read of a format's values
  abbrev pub ReadsAs : {A V : Type 0} → (A → V) → (Mode → Format V) → Result A E → S → S → Type 0
  ReadsAs seen format result old new =
      Reads errors.from_gives errors.eof seen (format (state old).mode) result (state old) (state new)

  -- a read, and a peek, of a codec's values
  abbrev pub ReadsValue : {A V : Type 0} → (A → V) → Codec V → Result A E → S → S → Type 0
  ReadsValue seen codec = ReadsAs seen codec.format

  abbrev pub PeeksValue : {A V : Type 0} → (A → V) → Codec V → Result A E → S → S → Type 0
  PeeksValue seen codec result old new =
      Peeks errors.from_gives errors.eof seen (codec.format (state old).mode) result (state old) (state new)

  -- a read, and a peek, of a number of n bytes, and of a signed one of a width
  abbrev pub ReadsUnsigned : ℕ → Result ℕ E → S → S → Type 0
  ReadsUnsigned width = ReadsValue (λ n. n) (unsigned_codec width)

  abbrev pub ReadsSigned : Width → Result ℤ E → S → S → Type 0
  ReadsSigned w = ReadsValue (λ z. z) (signed_codec w)

  abbrev pub PeeksUnsigned : ℕ → Result ℕ E → S → S → Type 0
  PeeksUnsigned width = PeeksValue (λ n. n) (unsigned_codec width)

  abbrev pub PeeksSigned : Width → Result ℤ E → S → S → Type 0
  PeeksSigned w = PeeksValue (λ z. z) (signed_codec w)

  -- a read, and a peek, of as many bytes as an output has, which they fill: the output before, and filled
  abbrev pub ReadsInto : {A : Type 0} → List ℕ → List ℕ → Result A E → S → S → Type 0
  ReadsInto output filled = ReadsValue (λ _. filled) (raw_bytes_codec (length output))

  abbrev pub PeeksInto : {A : Type 0} → List ℕ → List ℕ → Result A E → S → S → Type 0
  PeeksInto output filled = PeeksValue (λ _. filled) (raw_bytes_codec (length output))

  -- a read of n bytes, whatever they are
  abbrev pub Skips : ℕ → Result (Unit {0}) E → S → S → Type 0
  Skips n = ReadsAs (λ x. x) (λ _. any_bytes n)

  -- Where fewer than n bytes remain, whatever they are, a read is refused as an end of them.
  abbrev pub RefusesFewer : {A : Type 0} → ℕ → Result A E → S → S → Type 0
  RefusesFewer n result old new =
      IsTrue (state old).fixed.tells → length (state old).remaining < n
      → IsErrAnd result (λ e. Excused errors.from_gives false e (state old) (state new)
      ⊎ IsEnd errors.from_gives errors.eof (state old).fixed.ends_by_device e)

  -- What a read answers that lends its bytes. Where the reader lends, it answers, refuses and takes as a read of so
  -- many bytes does, and what is lent shows the bytes that were taken. A reader that lends nothing answers nothing and
  -- takes nothing; so does one whose loans show nothing.
  abbrev pub LendsBytes : {A : Type 0} → (A → List ℕ) → ℕ → Option (Result A E) → S → S → Type 0
  LendsBytes shows n lent old new =
      MatchOption lent
      ((IsTrue (state old).fixed.lends → ShowsNothing shows) × (state new ≡ state old))
      (λ result. IsTrue (state old).fixed.lends × ReadsValue shows (raw_bytes_codec n) result old new)

  -- A read of a value that is borrowed, from a reader that lends nothing: where the bytes are there that are read
  -- before it, it is refused as `Unsized`.
  abbrev pub RefusesUnsized : {A U : Type 0} → Codec U → Result A E → S → S → Type 0
  RefusesUnsized {U = U} codec result old new =
      let before = codec.format (state old).mode in
      (state old).fixed.lends ≡ false → IsTold before (state old)
      → (u : U) (prefix rest : List ℕ) → before.encodes u prefix → (state old).remaining ≡ prefix ++ rest
      → IsErrAnd result (λ e. Excused errors.from_gives before.asks.memory e (state old) (state new)
      ⊎ errors.from_gives (error_of kinds.Unsized) e)
