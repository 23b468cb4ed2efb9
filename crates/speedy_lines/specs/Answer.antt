-- What a line is answered.
use Rattle.std.specs.Prelude.{◌≡◌, ℕ, ◌<◌, ◌≤◌, List, [], ◌∷◌, ◌++◌, ◌⊎◌, length, Option, None, Some, false, IsTrue}
use Rattle.std.specs.Prelude.{codes}
use Rattle.std.specs.Fmt.{decimal}
use Rattle.hex.specs.Hex.{encode_lower}
use Rattle.speedy.specs.declared.error.ErrorKind.{ErrorKind}
use Rattle.speedy.specs.declared.error.ErrorKind.TheVariants as kinds
use Rattle.speedy.specs.ErrorKind.{is_eof_kind, EndsInput}
use Rattle.speedy.specs.Mode.{Mode}
use Rattle.speedy.specs.Format.{Format}
use Rattle.speedy_lines.specs.declared.line.LineOrder.{LineOrder}
use Rattle.speedy_lines.specs.declared.names.TypeName.{TypeName}
use Rattle.speedy_lines.specs.Names.{Named, named}
use Rattle.speedy_lines.specs.Line.{mode_of, IsLine, IsBad}

-- bytes as hexadecimal digits in lower case, `-` for none
abbrev pub hex_of : List ℕ → List ℕ
hex_of [] = codes "-"
hex_of (b ∷ bytes) = encode_lower (b ∷ bytes)

-- the name of a kind of refusal
abbrev pub kind_name : ErrorKind → List ℕ
kind_name kinds.InvalidChar = codes "InvalidChar"
kind_name kinds.InvalidEnumVariant = codes "InvalidEnumVariant"
kind_name kinds.InvalidUtf8 = codes "InvalidUtf8"
kind_name kinds.InvalidSystemTime = codes "InvalidSystemTime"
kind_name kinds.ZeroNonZero = codes "ZeroNonZero"
kind_name kinds.OutOfRangeLength = codes "OutOfRangeLength"
kind_name kinds.OutOfRangeUsize = codes "OutOfRangeUsize"
kind_name kinds.UnexpectedEndOfInput = codes "UnexpectedEndOfInput"
kind_name kinds.UnexpectedEndOfOutputBuffer = codes "UnexpectedEndOfOutputBuffer"
kind_name (kinds.InputBufferIsTooSmall actual expected) =
    codes "InputBufferIsTooSmall " ++ (decimal actual ++ (codes " " ++ decimal expected))
kind_name (kinds.OutputBufferIsTooSmall actual expected) =
    codes "OutputBufferIsTooSmall " ++ (decimal actual ++ (codes " " ++ decimal expected))
kind_name (kinds.LengthIsNotTheSameAsLengthAttribute field) = codes "LengthIsNotTheSameAsLengthAttribute"
kind_name (kinds.ExpectedConstant constant) = codes "ExpectedConstant"
kind_name kinds.Unsized = codes "Unsized"
kind_name kinds.EndiannessMismatch = codes "EndiannessMismatch"
kind_name kinds.NotWrittenForm = codes "NotWrittenForm"
kind_name (kinds.IoError e) = codes "IoError"
kind_name kinds.OutOfMemory = codes "OutOfMemory"
kind_name (kinds.Custom message) = codes "Custom"

-- the two sizes that a kind may have, behind its word
abbrev pub sizes_text : Option (ℕ × ℕ) → List ℕ
sizes_text None = []
sizes_text (Some (actual, expected)) = codes " " ++ (decimal actual ++ (codes " " ++ decimal expected))

-- a value: the length of the prefix that encodes it, and what is written of it
abbrev pub ok_text : ℕ → List ℕ → List ℕ
ok_text count written = codes "ok " ++ (decimal count ++ (codes " " ++ (hex_of written ++ codes "\n")))

-- a refusal: its kind
abbrev pub refused_text : ErrorKind → List ℕ
refused_text kind = codes "refused " ++ (kind_name kind ++ codes "\n")

-- the bytes are fewer than any encoding has
pub record AnswersTooSmall (least : ℕ) (bytes answer : List ℕ) : Type 0 where
  pub fewer : length bytes < least
  pub answer_is : answer ≡ refused_text (kinds.InputBufferIsTooSmall (length bytes) least)

module _ {V : Type 0} (least : ℕ) (L : Format V) (bytes answer : List ℕ) where
  -- a prefix of the bytes encodes a value
  pub record AnswersValue : Type 0 where
    pub value : V
    pub prefix : List ℕ
    pub rest : List ℕ
    pub written : List ℕ
    pub bytes_are : bytes ≡ prefix ++ rest
    pub prefix_encodes : L.encodes value prefix
    pub written_is : L.writes value written
    pub answer_is : answer ≡ ok_text (length prefix) written

  -- no prefix encodes any: an end of input where more bytes may make an encoding, a kind that the type names where it
  -- refuses them itself, and else one of the two
  pub record AnswersRefusal : Type 0 where
    pub kind : ErrorKind
    pub enough : least ≤ length bytes
    pub no_prefix : (v : V) (prefix rest : List ℕ) → bytes ≡ prefix ++ rest → L.encodes v prefix → ⊥
    pub kind_is : EndsInput false kind ⊎ L.names kind
    pub too_short : (v : V) (more : List ℕ) → L.encodes v (bytes ++ more) → IsTrue (is_eof_kind kind)
    pub malformed : L.malformed bytes → L.names kind
    pub answer_is : answer ≡ refused_text kind

  -- what the bytes of a line are answered, read as values of a format
  abbrev pub AnswersBytes : Type 0
  AnswersBytes = AnswersTooSmall least bytes answer ⊎ (AnswersValue ⊎ AnswersRefusal)

-- what the bytes of a line are answered, as a type that lines name
abbrev pub AnswersAs : Named → Mode → List ℕ → List ℕ → Type 0
AnswersAs type mode = AnswersBytes type.least (type.format mode)

-- the answer of a line that is of the form
pub record AnswersGoodLine (line answer : List ℕ) : Type 0 where
  pub order : LineOrder
  pub name : TypeName
  pub bytes : List ℕ
  pub says : IsLine line order name bytes
  pub answers : AnswersAs (named name) (mode_of order) bytes answer

-- the answer of a line: `bad line` exactly where it isn't of the form
abbrev pub AnswersLine : List ℕ → List ℕ → Type 0
AnswersLine line answer = (IsBad line × (answer ≡ codes "bad line\n")) ⊎ AnswersGoodLine line answer
