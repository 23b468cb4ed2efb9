-- The kinds of refusals: which of them are ends of input, what they print, and what they are as an `io::Error`.
use Rattle.std.specs.Prelude.{◌≡◌, ℕ, List, ◌++◌, length, Bool, true, false, IsTrue, Option, Some, None, codes}
use Rattle.std.specs.Fmt.{decimal}
use Rattle.std.specs.String.{string_bytes}
use Rattle.std.specs.IoError.{error_kind}
use Rattle.std.specs.declared.io.ErrorKind.{ErrorKind as IoKind}
use Rattle.std.specs.declared.io.ErrorKind.TheVariants.{InvalidData, UnexpectedEof, Other}
use Rattle.std.specs.declared.io.Error.{Error as StdIoError}
use Rattle.speedy_base.specs.declared.error.ErrorKind.{ErrorKind}
use Rattle.speedy_base.specs.declared.error.ErrorKind.TheVariants as kinds

-- an `io::Error` stands for an end of input
abbrev pub is_io_eof : IoKind → Bool
is_io_eof UnexpectedEof = true
is_io_eof _ = false

-- the kinds that say that the bytes ended too soon
abbrev pub is_eof_kind : ErrorKind → Bool
is_eof_kind kinds.UnexpectedEndOfInput = true
is_eof_kind kinds.UnexpectedEndOfOutputBuffer = true
is_eof_kind (kinds.IoError e) = is_io_eof (error_kind e.value)
is_eof_kind _ = false

-- the kinds with which input ends: `UnexpectedEndOfInput`, and where it comes from a device also an `IoError` that
-- stands for an end
abbrev pub EndsInput : Bool → ErrorKind → Type 0
EndsInput by_device kinds.UnexpectedEndOfInput = Unit {0}
EndsInput by_device (kinds.IoError e) = IsTrue by_device × IsTrue (is_io_eof (error_kind e.value))
EndsInput by_device _ = ⊥

-- the text that `{}` prints, but for the inner text of an `IoError`
abbrev pub text_of : ErrorKind → Option (List ℕ)
text_of kinds.InvalidChar = Some (codes "out of range char")
text_of kinds.InvalidEnumVariant = Some (codes "invalid enum variant")
text_of kinds.InvalidUtf8 = Some (codes "encountered invalid utf-8")
text_of kinds.InvalidSystemTime = Some (codes "encountered invalid system time object")
text_of kinds.ZeroNonZero = Some (codes "a field which is supposed to be non-zero is zero")
text_of kinds.OutOfRangeLength = Some (codes "out of range length")
text_of kinds.OutOfRangeUsize = Some (codes "value cannot fit into an usize on this architecture")
text_of kinds.UnexpectedEndOfInput = Some (codes "unexpected end of input")
text_of kinds.UnexpectedEndOfOutputBuffer = Some (codes "unexpected end of output buffer")
text_of (kinds.InputBufferIsTooSmall actual expected) =
    Some (codes "input buffer is too small; expected at least "
    ++ (decimal expected ++ (codes " bytes, got " ++ decimal actual)))
text_of (kinds.OutputBufferIsTooSmall actual expected) =
    Some (codes "output buffer is too small; expected at least "
    ++ (decimal expected ++ (codes " bytes, got " ++ decimal actual)))
text_of (kinds.LengthIsNotTheSameAsLengthAttribute field) =
    Some (codes "the length of '" ++ (field.now ++ codes "' is not the same as its 'length' attribute"))
text_of (kinds.ExpectedConstant constant) =
    Some (codes "expected a predefined " ++ (decimal (length constant.now) ++ codes " bytes(s) long constant"))
text_of kinds.Unsized =
    Some (codes
    "type is unsized hence requires zero-copy deserialization; use `read_from_buffer` or similar to deserialize it")
text_of kinds.EndiannessMismatch = Some (codes "endianness mismatch")
text_of kinds.NotWrittenForm = Some (codes "spelling is not the written one")
text_of (kinds.IoError e) = None
text_of kinds.OutOfMemory = Some (codes "out of memory")
text_of (kinds.Custom text) = Some (string_bytes text)

-- the kind of the `io::Error` that a refusal becomes: an end is `UnexpectedEof`, bytes that are refused `InvalidData`
abbrev pub io_kind_of : ErrorKind → IoKind
io_kind_of kinds.UnexpectedEndOfInput = UnexpectedEof
io_kind_of kinds.UnexpectedEndOfOutputBuffer = UnexpectedEof
io_kind_of (kinds.IoError e) = error_kind e.value
io_kind_of kinds.OutOfMemory = Other
io_kind_of (kinds.Custom text) = Other
io_kind_of _ = InvalidData

-- what a refusal becomes as an `io::Error`: of its kind, and the inner error itself where there is one
abbrev pub BecomesIo : ErrorKind → StdIoError → Type 0
BecomesIo (kinds.IoError e) x = x ≡ e.value
BecomesIo kind x = error_kind x ≡ io_kind_of kind
