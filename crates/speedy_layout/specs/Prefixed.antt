-- A number, and behind it what the number tells of: texts, lists, maps and sets behind a length, cases behind a tag.
use Rattle.std.specs.Prelude.{◌≡◌, ℕ, List, refl}
use Rattle.speedy_base.specs.Mode.{Mode}
use Rattle.speedy_layout.specs.Codes.{coding}
use Rattle.speedy_layout.specs.Format.{asks_nothing, Format}
use Rattle.speedy_layout.specs.Laws.{Laws, Codec, SameWritten}
use Rattle.speedy_layout.specs.Lists.{prefixed_list_codec}
use Rattle.speedy_layout.specs.Numbers.{unsigned_number, unsigned_codec, length_number, length_codec}
use Rattle.speedy_layout.specs.Numbers.{WritesSmaller, unsigned_smaller, length_smaller}
use Rattle.speedy_layout.specs.Owned.{borrowed_codec}
use Rattle.speedy_layout.specs.Sequences.{sequence}
use Rattle.speedy_layout.specs.Texts.{prefixed_text_codec}
use Rattle.speedy_layout.specs.Varint.{varint, varint_codec, varint_smaller}

-- Numbers that lengths and tags are encoded as.
pub record Numbers : Type 1 where
  pub codec : Codec ℕ
  -- reading one asks for nothing
  pub none_asked : (f : Mode) → (codec.format f).asks ≡ asks_nothing
  -- a smaller one is written in no more bytes
  pub smaller : (f : Mode) → WritesSmaller (codec.format f)

-- Values behind a number that tells of them: which bytes, those of the number among them, encode which values. The
-- least size is that of the number.
pub record Behind (numbers : Numbers) (V : Type 0) : Type 1 where
  pub format : Mode → Format V
  pub laws : (f : Mode) → Laws f.strict numbers.codec.least (format f)
  pub same_written : SameWritten format

abbrev pub prefixed_codec : {V : Type 0} {numbers : Numbers} → Behind numbers V → Codec V
prefixed_codec {numbers = numbers} behind = record {
  least = numbers.codec.least;
  format = behind.format;
  laws = behind.laws;
  same_written = behind.same_written;
}

pub unsigned_asks : (width : ℕ) (f : Mode) → (unsigned_number width f).asks ≡ asks_nothing
unfolding unsigned_number
unsigned_asks width f = refl

pub varint_asks : (f : Mode) → (varint f).asks ≡ asks_nothing
unfolding varint coding sequence unsigned_number
varint_asks f = refl

pub length_asks : (width greatest : ℕ) (f : Mode) → (length_number width greatest f).asks ≡ asks_nothing
unfolding coding unsigned_number
length_asks width greatest f = refl

-- numbers of n bytes
abbrev pub unsigned_numbers : ℕ → Numbers
unsigned_numbers width = record {
  codec = unsigned_codec width;
  none_asked = unsigned_asks width;
  smaller = unsigned_smaller width;
}

-- numbers of a variable length
abbrev pub varint_numbers : Numbers
varint_numbers = record { codec = varint_codec; none_asked = varint_asks; smaller = varint_smaller }

-- numbers of w bytes that are at most `greatest`; greater ones are refused as lengths
abbrev pub length_numbers : ℕ → ℕ → Numbers
length_numbers width greatest = record {
  codec = length_codec width greatest;
  none_asked = length_asks width greatest;
  smaller = length_smaller width greatest;
}

-- a text behind its number of bytes
abbrev pub text_behind : (numbers : Numbers) → Behind numbers (List ℕ)
text_behind numbers =
    let text = prefixed_text_codec numbers.codec in
    record { format = text.format; laws = text.laws; same_written = text.same_written }

-- a list behind its number of items
abbrev pub list_behind : {V : Type 0} → Codec V → (numbers : Numbers) → Behind numbers (List V)
list_behind item numbers =
    let list = prefixed_list_codec numbers.codec item in
    record { format = list.format; laws = list.laws; same_written = list.same_written }

abbrev pub borrowed_behind : {V : Type 0} {numbers : Numbers} → Behind numbers V → Behind numbers V
borrowed_behind content =
    let borrowed = borrowed_codec (prefixed_codec content) in
    record { format = borrowed.format; laws = borrowed.laws; same_written = borrowed.same_written }
