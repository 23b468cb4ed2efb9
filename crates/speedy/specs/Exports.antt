-- What functions that are exported to other languages answer: the numbers of errors and of byte orders, and what a
-- check says of bytes.
use Rattle.std.specs.Prelude.{◌≡◌, ℕ, ◌≤◌, ◌<◌, ◌+◌, ◌-◌, ◌^◌, List, ◌++◌, length, drop, Bool, true, false, IsTrue}
use Rattle.std.specs.Prelude.{◌⊎◌, ◌↔◌, Result, MatchResult}
use Rattle.std.specs.Char.{IsScalar}
use Rattle.std.specs.Str.{IsUtf8}
use Rattle.speedy_base.specs.declared.endianness.Endianness.{Endianness}
use Rattle.speedy_base.specs.declared.endianness.Endianness.TheVariants.{LittleEndian, BigEndian}
use Rattle.speedy_base.specs.declared.error.ErrorKind.{ErrorKind}
use Rattle.speedy_base.specs.declared.error.ErrorKind.TheVariants as kinds
use Rattle.speedy_base.specs.Mode.{plain_mode}
use Rattle.speedy_layout.specs.Codecs.{Codec}
use Rattle.speedy_layout.specs.Format.{Format}
use Rattle.speedy_layout.specs.Wholes.{WholeCodec}
use Rattle.speedy_write.specs.WaysOfWriting.{IsShortest}
use Rattle.speedy.specs.declared.exports.Unshown.{Unshown}
use Rattle.speedy.specs.declared.exports.Unshown.TheVariants as unshown
use Rattle.speedy.specs.Prefixes.{BeginsWith, BeginsWithNone}

-- the number of a kind of error; 0 is none
abbrev pub number_of_kind : ErrorKind → ℕ
number_of_kind kinds.InvalidChar = 1
number_of_kind kinds.InvalidEnumVariant = 2
number_of_kind kinds.InvalidUtf8 = 3
number_of_kind kinds.InvalidSystemTime = 4
number_of_kind kinds.ZeroNonZero = 5
number_of_kind kinds.OutOfRangeLength = 6
number_of_kind kinds.OutOfRangeUsize = 7
number_of_kind kinds.UnexpectedEndOfInput = 8
number_of_kind kinds.UnexpectedEndOfOutputBuffer = 9
number_of_kind (kinds.InputBufferIsTooSmall actual expected) = 10
number_of_kind (kinds.OutputBufferIsTooSmall actual expected) = 11
number_of_kind (kinds.LengthIsNotTheSameAsLengthAttribute field) = 12
number_of_kind (kinds.ExpectedConstant constant) = 13
number_of_kind kinds.Unsized = 14
number_of_kind kinds.EndiannessMismatch = 15
number_of_kind kinds.NotWrittenForm = 16
number_of_kind (kinds.IoError e) = 17
number_of_kind kinds.OutOfMemory = 18
number_of_kind (kinds.Custom text) = 19

-- the number of a byte order
abbrev pub number_of_order : Endianness → ℕ
number_of_order LittleEndian = 0
number_of_order BigEndian = 1

-- the number of a flag
abbrev pub flag_as_number : Bool → ℕ
flag_as_number true = 1
flag_as_number false = 0

-- the number of the kind that says of bytes what is wrong with a view
abbrev pub number_of_unshown : Unshown → ℕ
number_of_unshown unshown.Character = 1
number_of_unshown unshown.Tag = 2
number_of_unshown unshown.Text = 3
number_of_unshown unshown.List = 6

-- what a view has of a text, of which this is the UTF-8; of a character; and of a flag
abbrev pub ShowsText : List ℕ → List ℕ → Type 0
ShowsText text bytes = (bytes ≡ text) × IsUtf8 bytes

abbrev pub ShowsCharacter : ℕ → ℕ → Type 0
ShowsCharacter character number = (number ≡ character) × IsScalar number

abbrev pub ShowsFlag : Bool → ℕ → Type 0
ShowsFlag flag number = number ≡ flag_as_number flag

-- the numbers of the kinds that say that bytes ended too soon: with more of them there may be a value
abbrev pub EndsTooSoon : ℕ → Type 0
EndsTooSoon answer = (answer ≡ 8) ⊎ ((answer ≡ 9) ⊎ ((answer ≡ 10) ⊎ (answer ≡ 17)))

-- What a check of bytes says in a format: 0 where they begin with an encoding, of so many bytes; and else why not.
pub record ChecksIn {V : Type 0} (format : Format V) (bytes : List ℕ) (answer size : ℕ) : Type 0 where
  pub encoded : answer ≡ 0 → (v : V) × (rest : List ℕ)
      × BeginsWith format v bytes rest × (size + length rest ≡ length bytes)
  -- they begin with none, or memory lacks, for a value that takes some
  pub refused : (answer ≡ 0 → ⊥) → ((answer ≡ 18) × IsTrue format.asks.memory) ⊎ BeginsWithNone format bytes
  -- whatever bytes come after them
  pub never : (answer ≡ 0 → ⊥) → (answer ≡ 18 → ⊥) → (EndsTooSoon answer → ⊥)
      → (v : V) (more : List ℕ) → format.encodes v (bytes ++ more) → ⊥
  -- where they end within a value, nothing that its type refuses stands at their start
  pub grows : answer ≡ 8 → format.malformed bytes → ⊥

-- What a check says of bytes in the byte order of a number: 100 where that is none.
pub record Checks {V : Type 0} (codec : Codec V) (order : ℕ) (bytes : List ℕ) (answer size : ℕ) : Type 0 where
  pub within : size ≤ length bytes
  pub unknown : (answer ≡ 100) ↔ (1 < order)
  pub known : (it : Endianness) → order ≡ number_of_order it
      → ChecksIn (codec.format (plain_mode it)) bytes answer size

-- What a check of all bytes says in a format: 0 where they are an encoding, and else that they are none.
pub record ChecksWholeIn {V : Type 0} (format : Format V) (bytes : List ℕ) (answer : ℕ) : Type 0 where
  pub encoded : answer ≡ 0 → (v : V) × format.encodes v bytes
  pub refused : (answer ≡ 0 → ⊥)
      → ((answer ≡ 18) × IsTrue format.asks.memory) ⊎ ((v : V) → format.encodes v bytes → ⊥)

-- What a check of all bytes says in the byte order of a number: 100 where that is none.
pub record ChecksWhole {V : Type 0} (codec : WholeCodec V) (order : ℕ) (bytes : List ℕ) (answer : ℕ) : Type 0 where
  pub unknown : (answer ≡ 100) ↔ (1 < order)
  pub known : (it : Endianness) → order ≡ number_of_order it
      → ChecksWholeIn (codec.format (plain_mode it)) bytes answer

-- What a read of bytes into what is shown of a value says in a format: as a check of them, and where they begin with an
-- encoding, that of a value which is shown; else nothing is changed.
pub record ReadsIn {A V W : Type 0} (seen : A → V) (shows : A → W → Type 0) (format : Format V) (bytes : List ℕ)
    (answer size : ℕ) (new : W) : Type 0 where
  pub checked : ChecksIn format bytes answer size
  pub shown : answer ≡ 0 → (value : A) × (rest : List ℕ)
      × BeginsWith format (seen value) bytes rest × (size + length rest ≡ length bytes) × shows value new

-- What such a read says in the byte order of a number: 100 where that is none.
pub record Reads {A V W : Type 0} (seen : A → V) (shows : A → W → Type 0) (codec : Codec V) (order : ℕ)
    (bytes : List ℕ) (answer size : ℕ) (old new : W) : Type 0 where
  pub within : size ≤ length bytes
  pub unknown : (answer ≡ 100) ↔ (1 < order)
  pub kept : (answer ≡ 0 → ⊥) → new ≡ old
  pub known : (it : Endianness) → order ≡ number_of_order it
      → ReadsIn seen shows (codec.format (plain_mode it)) bytes answer size new

-- What a step of a walk says, of bytes before and after it: what a read of those before says, of which a value that is
-- shown is taken, and nothing else.
pub record Steps {A V W : Type 0} (seen : A → V) (shows : A → W → Type 0) (codec : Codec V) (order : ℕ)
    (before after : List ℕ) (answer : ℕ) (old new : W) : Type 0 where
  pub size : ℕ
  pub reads : Reads seen shows codec order before answer size old new
  pub taken : answer ≡ 0 → (prefix : List ℕ) × (before ≡ prefix ++ after) × (length prefix ≡ size)
  pub kept : (answer ≡ 0 → ⊥) → after ≡ before

-- What is made of a view: a value that it shows, and no other is, as values are seen; or it shows none.
abbrev pub MakesShown : {A V W E : Type 0} → (A → V) → (A → W → Type 0) → W → Result A E → Type 0
MakesShown {A = A} seen shows view result = MatchResult result
    (λ value. shows value view × ((other : A) → shows other view → seen other ≡ seen value))
    (λ _. (value : A) → shows value view → ⊥)

-- What a write of a value to a buffer says in a format, of the buffer before and behind: 0 where its canonical encoding
-- fits, and 11 where the buffer is shorter; `size` is then how long that is.
pub record WritesIn {V : Type 0} (format : Format V) (value : V) (answer size : ℕ) (old new : List ℕ) : Type 0 where
  pub written : answer ≡ 0 → (bytes : List ℕ) × IsShortest format value bytes × (size ≡ length bytes)
      × (new ≡ bytes ++ drop size old)
  pub fits : (bytes : List ℕ) → format.writes value bytes → length bytes < 2 ^ 64 - 1 → length bytes ≤ length old
      → answer ≡ 0
  pub short : answer ≡ 11 → (bytes : List ℕ) × format.writes value bytes × (size ≡ length bytes)
      × (length old < size)
  pub too_short : (bytes : List ℕ) → format.writes value bytes → length bytes < 2 ^ 64 - 1 → length old < length bytes
      → answer ≡ 11

-- What a write of a view says in a format: as the write of the one value that it shows, or which kind of part shows
-- none.
abbrev pub WritesShown : {A V W : Type 0} → (A → V) → (A → W → Type 0) → Format V → W → ℕ → ℕ → List ℕ → List ℕ
    → Type 0
WritesShown {A = A} seen shows format view answer size old new =
    ((value : A) × shows value view × ((other : A) → shows other view → seen other ≡ seen value)
    × WritesIn format (seen value) answer size old new)
    ⊎ (((value : A) → shows value view → ⊥) × ((why : Unshown) × (answer ≡ number_of_unshown why)))

-- What such a write says in the byte order of a number: 100 where that is none.
pub record Writes {A V W : Type 0} (seen : A → V) (shows : A → W → Type 0) (codec : Codec V) (view : W) (order : ℕ)
    (answer size : ℕ) (old new : List ℕ) : Type 0 where
  pub unknown : (answer ≡ 100) ↔ (1 < order)
  pub kept : (answer ≡ 0 → ⊥) → new ≡ old
  -- no number of bytes is told but those of an encoding
  pub told : (answer ≡ 0 → ⊥) → (answer ≡ 11 → ⊥) → size ≡ 0
  pub known : (it : Endianness) → order ≡ number_of_order it
      → WritesShown seen shows (codec.format (plain_mode it)) view answer size old new

-- What a check says of bytes that begin with so many that were written: that these are an encoding, or that memory
-- lacks, for a value that takes some.
abbrev pub TakesWhole : {V : Type 0} → Codec V → ℕ → ℕ → ℕ → ℕ → Type 0
TakesWhole codec order answer found size =
    ((answer ≡ 18) × ((it : Endianness) × (order ≡ number_of_order it)
    × IsTrue (codec.format (plain_mode it)).asks.memory))
    ⊎ ((answer ≡ 0) × (found ≡ size))

-- What was written of what was read: both encode one value in the order of a number, the one in its canonical encoding.
abbrev pub WritesAgain : {V : Type 0} → Codec V → ℕ → List ℕ → List ℕ → Type 0
WritesAgain {V = V} codec order read written =
    (it : Endianness) → order ≡ number_of_order it → (value : V) × (codec.format (plain_mode it)).encodes value read
    × (codec.format (plain_mode it)).writes value written × (length written ≤ length read)
