-- Bytes and texts.
-- A text is seen as the bytes of its characters in UTF-8, which determine the characters, and are determined by them.
use Rattle.std.specs.Prelude.{◌≡◌, ℕ, ◌+◌, List, [], ◌∷◌, ◌++◌, length, Bool, true, refl}
use Rattle.std.proofs.Common.{sym, ◌∙◌, ap, arith}
use Rattle.std.specs.Str.{IsUtf8}
use Rattle.speedy_base.specs.declared.error.ErrorKind.{ErrorKind}
use Rattle.speedy_base.specs.declared.error.ErrorKind.TheVariants as kinds
use Rattle.speedy_base.specs.declared.endianness.Endianness.{Endianness}
use Rattle.speedy_base.specs.Digits.{EncodesNumber, AreBytes}
use Rattle.speedy_base.specs.DigitsLemmas.{EncodesNumber-one_byte, EncodesNumber-is_one_byte}
use Rattle.speedy_base.specs.Mode.{Mode}
use Rattle.speedy_layout.specs.Format.{asks_nothing, Format, plain_format, Each, IsOwnKind, Parts-joined}
use Rattle.speedy_layout.specs.Laws.{Laws, Codec, Laws-less, SameWritten, plain_laws, writes_itself}
use Rattle.speedy_layout.specs.Codes.{subset, subset_codec, coding, coding_laws, coding_written, exact_code}
use Rattle.speedy_layout.specs.Codes.{exact_is_code}
use Rattle.speedy_layout.specs.Numbers.{unsigned_number, unsigned_codec, same_prefixes}
use Rattle.speedy_layout.specs.Owned.{owned_content, owned_codec}
use Rattle.speedy_layout.specs.Sequences.{AsksAtMost, asks_same, counted_parts, sequence, sequence_laws}
use Rattle.speedy_layout.specs.Sequences.{sequence_written}

-- n bytes, as they are
unfoldable pub raw_bytes : ℕ → Format (List ℕ)
raw_bytes n = plain_format (λ v bytes. (v ≡ bytes) × (length bytes ≡ n))

-- n bytes, whatever they are
unfoldable pub any_bytes : ℕ → Format (Unit {0})
any_bytes n = plain_format (λ _ bytes. length bytes ≡ n)

-- the refusal of other bytes than these, which it holds
abbrev pub IsExpected : List ℕ → ErrorKind → Type 0
IsExpected bytes (kinds.ExpectedConstant constant) = constant.now ≡ bytes
IsExpected bytes _ = ⊥

-- just these bytes; others of their number are refused
unfoldable pub constant_bytes : Mode → List ℕ → Format (List ℕ)
constant_bytes mode constant =
    coding mode (exact_code (λ u v. (u ≡ v) × (v ≡ constant)) (IsExpected constant)) (raw_bytes (length constant))

-- a text of n bytes; others are refused
unfoldable pub text_of_length : Mode → ℕ → Format (List ℕ)
text_of_length mode n = owned_content (subset mode IsUtf8 kinds.InvalidUtf8 (raw_bytes n))

-- a number of bytes, which is encoded as a format of numbers says, and then a text of just these
abbrev pub prefixed_text : Mode → Format ℕ → Format (List ℕ)
prefixed_text mode count =
    sequence counted_parts count (record asks_nothing { memory = true }) (text_of_length mode)

-- README, `{length: u32, bytes: [u8]}`: the number of bytes in four digits, then the UTF-8 bytes
unfoldable pub text : Mode → Format (List ℕ)
text mode = prefixed_text mode (unsigned_number 4 mode)

pub raw_bytes_laws : {strict : Bool} (n : ℕ) → Laws strict n (raw_bytes n)
unfolding raw_bytes
raw_bytes_laws n =
    plain_laws
    (λ v w s t r q h k e. let same = same_prefixes s t r q (h.1 ∙ sym k.1) e in
    (h.0 ∙ (same.0 ∙ sym k.0), same.0, same.1))
    (λ v b h. let l = h.1 in omega arith)
    (λ v b c h k. sym h.0 ∙ k.0)

abbrev pub raw_bytes_codec : ℕ → Codec (List ℕ)
raw_bytes_codec n = record {
  least = n;
  format = λ _. raw_bytes n;
  laws = λ _. raw_bytes_laws n;
  same_written = λ _ _. writes_itself;
}

pub expected_own : (constant : List ℕ) (kind : ErrorKind) → IsExpected constant kind → IsOwnKind kind
expected_own constant (kinds.ExpectedConstant c) h = tt
expected_own constant _ h = absurd h

pub constant_bytes_laws : (mode : Mode) (constant : List ℕ)
    → Laws mode.strict (length constant) (constant_bytes mode constant)
unfolding constant_bytes
constant_bytes_laws mode constant =
    coding_laws mode (raw_bytes_laws (length constant))
    (exact_is_code (expected_own constant) (λ u v w h k. sym h.0 ∙ k.0) (λ u w v h k. h.0 ∙ sym k.0))

pub constant_written : (constant : List ℕ) → SameWritten (λ f. constant_bytes f constant)
unfolding constant_bytes
constant_written constant f strict = coding_written f (record f { strict = strict }) _ writes_itself

abbrev pub constant_codec : List ℕ → Codec (List ℕ)
constant_codec bytes = record {
  least = length bytes;
  format = λ f. constant_bytes f bytes;
  laws = λ f. constant_bytes_laws f bytes;
  same_written = constant_written bytes;
}

pub text_of_length_laws : (mode : Mode) (n : ℕ) → Laws mode.strict n (text_of_length mode n)
unfolding text_of_length
text_of_length_laws mode n =
    (owned_codec (subset_codec IsUtf8 kinds.InvalidUtf8 tt (raw_bytes_codec n))).laws mode

pub text_of_length_written : (n : ℕ) → SameWritten (λ f. text_of_length f n)
unfolding text_of_length
text_of_length_written n = (owned_codec (subset_codec IsUtf8 kinds.InvalidUtf8 tt (raw_bytes_codec n))).same_written

pub text_asks : (mode : Mode) (n : ℕ)
    → AsksAtMost (text_of_length mode n).asks (record asks_nothing { memory = true })
unfolding text_of_length owned_content coding raw_bytes
text_asks mode n = asks_same

abbrev pub prefixed_text_codec : Codec ℕ → Codec (List ℕ)
prefixed_text_codec count = record {
  least = count.least;
  format = λ f. prefixed_text f (count.format f);
  laws = λ f. Laws-less {n = count.least + 0} (omega arith)
      (sequence_laws {n = count.least} {m = 0} (count.laws f) (λ n. Laws-less (omega arith) (text_of_length_laws f n))
      (text_asks f) (λ v w e. ap (λ (p : ℕ × List ℕ). p.1) e));
  same_written = λ f strict. sequence_written counted_parts _ _ (count.same_written f strict)
      (λ n. text_of_length_written n f strict);
}

pub text_laws : (mode : Mode) → Laws mode.strict 4 (text mode)
unfolding text
text_laws = (prefixed_text_codec (unsigned_codec 4)).laws

pub text_written : SameWritten text
unfolding text
text_written = (prefixed_text_codec (unsigned_codec 4)).same_written

abbrev pub text_codec : Codec (List ℕ)
text_codec = record { least = 4; format = text; laws = text_laws; same_written = text_written }

-- ---- bytes as numbers

-- bytes are numbers of one digit each
pub each_byte : (order : Endianness) (bytes : List ℕ) → AreBytes bytes → Each (EncodesNumber 1 order) bytes bytes
each_byte order [] h = refl
each_byte order (b ∷ bytes) h =
    Parts-joined (b ∷ []) bytes (EncodesNumber-one_byte order b h.0) (each_byte order bytes h.1)

-- and such numbers are the bytes that encode them
pub each_byte_is : (order : Endianness) (vs bytes : List ℕ) → Each (EncodesNumber 1 order) vs bytes → vs ≡ bytes
each_byte_is order [] bytes h = sym h
each_byte_is order (v ∷ vs) bytes h =
    let prefix = EncodesNumber-is_one_byte order v h.prefix h.first_is in
    let more = each_byte_is order vs h.suffix h.second_is in
    ap (λ x. v ∷ x) more ∙ (ap (λ x. x ++ h.suffix) (sym prefix) ∙ sym h.whole_is)
