-- Layouts of values that a list may show where it lies: reading one asks for no memory, and what is seen of it is data.
use Rattle.std.specs.Prelude.{◌≡◌, ℕ, ℤ, List, Bool, false, ◌||◌, ◌⊎◌, Option, refl}
use Rattle.std.proofs.Common.{ap, ap₂}
use Rattle.std.specs.Coded.{Coded, coded_ℕ, coded_ℤ, coded_bool, coded_list, coded_option, coded×, coded⊎}
use Rattle.std.specs.Int.{Width}
use base.Stored.{coded_unit}
use Rattle.speedy_base.specs.Mode.{Mode}
use Rattle.speedy_layout.specs.Choices.{Choices, unit_case, one_case, either_case, choices_behind}
use Rattle.speedy_layout.specs.Codecs.{Codec, unsigned_codec, signed_codec, flag_codec, character_codec, borrowed_codec}
use Rattle.speedy_layout.specs.Codecs.{unit_codec, pair_codec, option_codec, list_codec, raw_bytes_codec}
use Rattle.speedy_layout.specs.Codes.{coding}
use Rattle.speedy_layout.specs.Format.{Asks}
use Rattle.speedy_layout.specs.Numbers.{unsigned_number, signed_number}
use Rattle.speedy_layout.specs.Owned.{borrowed_content}
use Rattle.speedy_layout.specs.Prefixed.{Numbers, prefixed_codec}
use Rattle.speedy_layout.specs.Sequences.{sequence}
use Rattle.speedy_layout.specs.Texts.{raw_bytes}
use Rattle.speedy_layout.specs.Tuples.{unit}

-- reading a value asks for no memory, in any mode
abbrev pub TakesNoMemory : {V : Type 0} → Codec V → Type 0
TakesNoMemory codec = (mode : Mode) → (codec.format mode).asks.memory ≡ false

-- A layout whose values take no memory, and are seen as data: what is seen of one has a code, which tells it from any
-- other.
pub record InPlaceCodec (V : Type 0) : Type 1 where
  pub codec : Codec V
  pub coded : Coded V
  pub no_memory : TakesNoMemory codec

-- Cases whose values take no memory, and are seen as data.
pub record InPlaceChoices (V : Type 0) : Type 1 where
  pub choices : Choices V
  pub coded : Coded V
  pub no_memory : (mode : Mode) → (choices.asks mode).memory ≡ false

-- neither of two
pub neither : {a b : Bool} → a ≡ false → b ≡ false → (a || b) ≡ false
neither h k = ap₂ ◌||◌ h k

pub unsigned_no_memory : (width : ℕ) → TakesNoMemory (unsigned_codec width)
unfolding unsigned_number
unsigned_no_memory width mode = refl

pub signed_no_memory : (w : Width) → TakesNoMemory (signed_codec w)
unfolding signed_number
signed_no_memory w mode = refl

pub flag_no_memory : TakesNoMemory flag_codec
unfolding coding unsigned_number
flag_no_memory mode = refl

pub character_no_memory : TakesNoMemory character_codec
unfolding coding unsigned_number
character_no_memory mode = refl

pub raw_bytes_no_memory : (n : ℕ) → TakesNoMemory (raw_bytes_codec n)
unfolding raw_bytes
raw_bytes_no_memory n mode = refl

pub borrowed_no_memory : {V : Type 0} (codec : Codec V) → TakesNoMemory (borrowed_codec codec)
unfolding borrowed_content
borrowed_no_memory codec mode = refl

pub unit_no_memory : TakesNoMemory unit_codec
unfolding unit
unit_no_memory mode = refl

pub pair_no_memory : {U V : Type 0} (first : Codec U) (second : Codec V) → TakesNoMemory first → TakesNoMemory second
    → TakesNoMemory (pair_codec first second)
unfolding sequence
pair_no_memory first second h k mode = neither (h mode) (k mode)

pub option_no_memory : {V : Type 0} (value : Codec V) → TakesNoMemory value → TakesNoMemory (option_codec value)
unfolding sequence
option_no_memory value h mode = neither (flag_no_memory mode) (neither (h mode) (unit_no_memory mode))

pub tagged_no_memory : {V : Type 0} (numbers : Numbers) (choices : Choices V)
    → ((mode : Mode) → (choices.asks mode).memory ≡ false)
    → TakesNoMemory (prefixed_codec (choices_behind choices numbers))
unfolding sequence
tagged_no_memory numbers choices h mode =
    neither (ap (λ (a : Asks). a.memory) (numbers.none_asked mode)) (h mode)

abbrev pub unsigned_in_place : ℕ → InPlaceCodec ℕ
unsigned_in_place width =
    record { codec = unsigned_codec width; coded = coded_ℕ; no_memory = unsigned_no_memory width }

abbrev pub signed_in_place : Width → InPlaceCodec ℤ
signed_in_place w = record { codec = signed_codec w; coded = coded_ℤ; no_memory = signed_no_memory w }

abbrev pub flag_in_place : InPlaceCodec Bool
flag_in_place = record { codec = flag_codec; coded = coded_bool; no_memory = flag_no_memory }

abbrev pub character_in_place : InPlaceCodec ℕ
character_in_place = record { codec = character_codec; coded = coded_ℕ; no_memory = character_no_memory }

-- so many bytes
abbrev pub raw_bytes_in_place : ℕ → InPlaceCodec (List ℕ)
raw_bytes_in_place n =
    record { codec = raw_bytes_codec n; coded = coded_list coded_ℕ; no_memory = raw_bytes_no_memory n }

-- what is borrowed takes none, whatever it takes where it is owned
abbrev pub borrowed_in_place : {V : Type 0} → Coded V → Codec V → InPlaceCodec V
borrowed_in_place coded codec =
    record { codec = borrowed_codec codec; coded = coded; no_memory = borrowed_no_memory codec }

-- texts and lists of bytes
abbrev pub borrowed_bytes_in_place : Codec (List ℕ) → InPlaceCodec (List ℕ)
borrowed_bytes_in_place codec = borrowed_in_place (coded_list coded_ℕ) codec

-- a list that lies where it was read
abbrev pub encoded_list_in_place : {V : Type 0} → InPlaceCodec V → InPlaceCodec (List V)
encoded_list_in_place item = borrowed_in_place (coded_list item.coded) (list_codec item.codec)

abbrev pub unit_in_place : InPlaceCodec (Unit {0})
unit_in_place = record { codec = unit_codec; coded = coded_unit; no_memory = unit_no_memory }

abbrev pub pair_in_place : {U V : Type 0} → InPlaceCodec U → InPlaceCodec V → InPlaceCodec (U × V)
pair_in_place first second = record {
  codec = pair_codec first.codec second.codec;
  coded = coded× first.coded second.coded;
  no_memory = pair_no_memory first.codec second.codec first.no_memory second.no_memory;
}

abbrev pub option_in_place : {V : Type 0} → InPlaceCodec V → InPlaceCodec (Option V)
option_in_place value = record {
  codec = option_codec value.codec;
  coded = coded_option value.coded;
  no_memory = option_no_memory value.codec value.no_memory;
}

abbrev pub unit_case_in_place : ℕ → InPlaceChoices (Unit {0})
unit_case_in_place tag = record { choices = unit_case tag; coded = coded_unit; no_memory = λ _. refl }

abbrev pub one_case_in_place : {V : Type 0} → ℕ → InPlaceCodec V → InPlaceChoices V
one_case_in_place tag part =
    record { choices = one_case tag part.codec; coded = part.coded; no_memory = part.no_memory }

abbrev pub either_case_in_place : {V W : Type 0} → InPlaceChoices V → InPlaceChoices W → InPlaceChoices (V ⊎ W)
either_case_in_place first second = record {
  choices = either_case first.choices second.choices;
  coded = coded⊎ first.coded second.coded;
  no_memory = λ mode. neither (first.no_memory mode) (second.no_memory mode);
}

-- the cases behind a tag
abbrev pub tagged_in_place : {V : Type 0} → Numbers → InPlaceChoices V → InPlaceCodec V
tagged_in_place numbers cases = record {
  codec = prefixed_codec (choices_behind cases.choices numbers);
  coded = cases.coded;
  no_memory = tagged_no_memory numbers cases.choices cases.no_memory;
}
