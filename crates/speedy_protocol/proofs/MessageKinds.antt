-- Which kinds of errors a message in its frame is refused with.
use Rattle.std.specs.Prelude.{◌≡◌, ℕ, ℤ, ◌≤◌, ◌<◌, List, ◌++◌, drop, length, Bool, true, false, nat_eq, ◌⊎◌}
use Rattle.std.specs.Prelude.{Option, Result, Err}
use Rattle.std.specs.Int.{w32}
use Rattle.std.proofs.Common.{ap, ap₂, sym, ◌∙◌, inl, inr, arith}
use Rattle.std.proofs.lemmas.Bool.{cases_lt}
use Rattle.std.proofs.lemmas.List.{length-append}
use Rattle.std.proofs.Math.Seq.{drop-append_seam}
use Rattle.speedy.specs.declared.endianness.Endianness.TheVariants.{LittleEndian}
use Rattle.speedy.specs.declared.error.Error.{Error}
use Rattle.speedy.specs.declared.error.ErrorKind.{ErrorKind}
use Rattle.speedy.specs.declared.error.ErrorKind.TheVariants as kinds
use Rattle.speedy.specs.Choices.{AtTag, no_case, a_unit, a_case, case_format, Choices, choices_behind, either_case}
use Rattle.speedy.specs.Choices.{first_of, one_case, only_if, right_case, unit_case, whole_case, whole_unit}
use Rattle.speedy.specs.Codecs.{Codec, borrowed_codec, list_codec, option_codec, pair_codec, signed_codec}
use Rattle.speedy.specs.Codecs.{text_codec, unsigned_codec}
use Rattle.speedy.specs.Codes.{coding}
use Rattle.speedy.specs.Mode.{plain_mode, Mode}
use Rattle.speedy.specs.Error.{error_of, is_eof_error, IsNamed}
use Rattle.speedy.specs.ErrorKind.{EndsInput}
use Rattle.speedy.specs.Flags.{option}
use Rattle.speedy.specs.Format.{Format}
use Rattle.speedy.specs.Frames.{frame, frame_behind}
use Rattle.speedy.specs.Lists.{list, prefixed_list, repeat, vector}
use Rattle.speedy.specs.Numbers.{unsigned_number, signed_number}
use Rattle.speedy.specs.Owned.{owned_content, borrowed_content}
use Rattle.speedy.specs.Prefixed.{prefixed_codec, unsigned_numbers}
use Rattle.speedy.specs.Reading.{IsEnd, Undecodable}
use Rattle.speedy.specs.Sequences.{sequence}
use Rattle.speedy.specs.Texts.{raw_bytes, text_of_length, text}
use Rattle.speedy.specs.Tuples.{pair, unit}
use Rattle.speedy.specs.WaysOfReading.{AnswersBufferIf, Counts}
use Rattle.speedy.specs.Wholes.{whole_codec}
use Rattle.speedy_protocol.specs.Refusals.{IsBroken}

abbrev pub little : Mode
little = plain_mode LittleEndian

-- what may be wrong with bytes that are enough
abbrev Wrong : ErrorKind → Type 0
Wrong kind = IsBroken (error_of kind)

-- a format names no other kinds
abbrev NamesWrong : {V : Type 0} → Format V → Type 0
NamesWrong F = (kind : ErrorKind) → F.names kind → Wrong kind

unit_wrong : NamesWrong unit
unfolding unit
unit_wrong kind none = absurd none

number_wrong : (width : ℕ) → NamesWrong (unsigned_number width little)
unfolding unsigned_number
number_wrong width kind none = absurd none

text_wrong : NamesWrong (borrowed_content (text little))
unfolding sequence unsigned_number text text_of_length raw_bytes coding owned_content borrowed_content
text_wrong kind (inl none) = absurd none
text_wrong kind (inr (n, inl none)) = absurd none
text_wrong kind (inr (n, inr (inl is))) = inl (ap error_of is)
text_wrong kind (inr (n, inr (inr demand))) = absurd (let never = demand.0 in cc)

bytes_wrong : NamesWrong (borrowed_content (list little (unsigned_number 1 little)))
unfolding sequence unsigned_number list vector repeat owned_content borrowed_content
bytes_wrong kind (inl none) = absurd none
bytes_wrong kind (inr (n, none)) = absurd none

-- seconds and values
readings_wrong : NamesWrong (list little (pair (unsigned_number 4 little) (signed_number w32 little)))
unfolding sequence unsigned_number signed_number list vector repeat owned_content
readings_wrong kind (inl none) = absurd none
readings_wrong kind (inr (n, inl none)) = absurd none
readings_wrong kind (inr (n, inr (m, none))) = absurd none

pair_wrong : {U V : Type 0} (F : Format U) (G : Format V) → NamesWrong F → NamesWrong G → NamesWrong (pair F G)
unfolding sequence
pair_wrong F G first second kind (inl h) = first kind h
pair_wrong F G first second kind (inr (u, h)) = second kind h

option_wrong : {V : Type 0} (F : Format V) → NamesWrong F → NamesWrong (option little F)
unfolding sequence coding unsigned_number unit
option_wrong F wrong kind (inl (inl none)) = absurd none
option_wrong F wrong kind (inl (inr (inl none))) = absurd none
option_wrong F wrong kind (inl (inr (inr demand))) = absurd (let never = demand.0 in cc)
option_wrong F wrong kind (inr (true, h)) = wrong kind h
option_wrong F wrong kind (inr (false, none)) = absurd none

-- ---- a message

-- what stands behind a tag
abbrev CasesWrong : {V : Type 0} → Choices V → Type 0
CasesWrong cases = (n : ℕ) → NamesWrong (case_format (cases.case_of n) little)

only_if_wrong : {V : Type 0} (at_tag : Unit {0} → AtTag V) (b : Bool) → NamesWrong (case_format (at_tag tt) little)
    → NamesWrong (case_format (only_if b at_tag) little)
only_if_wrong at_tag true wrong kind h = wrong kind h
only_if_wrong at_tag false wrong kind is = inr (inl (ap error_of is))

right_wrong : (V : Type 0) {W : Type 0} (w : AtTag W) → NamesWrong (case_format w little)
    → (let second : AtTag (V ⊎ W) = right_case w in NamesWrong (case_format second little))
right_wrong V no_case wrong kind h = wrong kind h
right_wrong V (a_unit _ _) wrong kind h = wrong kind h
right_wrong V (a_case _) wrong kind h = wrong kind h

first_wrong : {V W : Type 0} (v : AtTag V) (w : Unit {0} → AtTag W) → NamesWrong (case_format v little)
    → NamesWrong (case_format (w tt) little) → NamesWrong (case_format (first_of v w) little)
first_wrong {V = V} no_case w one other kind h = right_wrong V (w tt) other kind h
first_wrong (a_unit _ _) w one other kind h = one kind h
first_wrong (a_case _) w one other kind h = one kind h

without_wrong : (tag : ℕ) → CasesWrong (unit_case tag)
without_wrong tag n = only_if_wrong (λ u. whole_unit u) (nat_eq n tag) unit_wrong

case_wrong : {V : Type 0} (tag : ℕ) (value : Codec V) → NamesWrong (value.format little)
    → CasesWrong (one_case tag value)
case_wrong tag value wrong n = only_if_wrong (λ u. whole_case value u) (nat_eq n tag) wrong

cases_wrong : {V W : Type 0} (first : Choices V) (second : Choices W) → CasesWrong first → CasesWrong second
    → CasesWrong (either_case first second)
cases_wrong first second one other n = first_wrong (first.case_of n) (λ _. second.case_of n) (one n) (other n)

tagged_wrong : {V : Type 0} (cases : Choices V) → CasesWrong cases
    → NamesWrong ((prefixed_codec (choices_behind cases (unsigned_numbers 1))).format little)
unfolding sequence unsigned_number
tagged_wrong cases wrong kind (inl none) = absurd none
tagged_wrong cases wrong kind (inr (n, h)) = wrong n kind h

frame_wrong : {V : Type 0} (F : Format V) → NamesWrong F → NamesWrong (frame little (unsigned_number 2 little) F)
unfolding frame coding sequence raw_bytes unsigned_number
frame_wrong F wrong kind (inl (inl none)) = absurd none
frame_wrong F wrong kind (inl (inr (n, none))) = absurd none
frame_wrong F wrong kind (inr (inl (inl h))) = wrong kind h
frame_wrong F wrong kind (inr (inl (inr is))) = inr (inr (ap error_of is))
frame_wrong F wrong kind (inr (inr demand)) = absurd (let never = demand.0 in cc)

-- the cases of a message, as `Message` has them
abbrev lent_text : Codec (List ℕ)
lent_text = borrowed_codec text_codec

abbrev hello : Choices (List ℕ × Option (List ℕ))
hello = one_case 2 (pair_codec lent_text (option_codec lent_text))

abbrev readings : Choices (ℕ × List (ℕ × ℤ))
readings = one_case 3 (pair_codec (unsigned_codec 2) (list_codec (pair_codec (unsigned_codec 4) (signed_codec w32))))

abbrev blob : Choices (List ℕ)
blob = one_case 4 (borrowed_codec (list_codec (unsigned_codec 1)))

abbrev failure : Choices (ℕ × List ℕ)
failure = one_case 5 (pair_codec (unsigned_codec 4) lent_text)

abbrev pub FirstCases : Type 0
FirstCases = Unit {0} ⊎ ((List ℕ × Option (List ℕ)) ⊎ (ℕ × List (ℕ × ℤ)))

abbrev pub LastCases : Type 0
LastCases = List ℕ ⊎ ((ℕ × List ℕ) ⊎ Unit {0})

abbrev pub first_cases : Choices FirstCases
first_cases = either_case (unit_case 1) (either_case hello readings)

abbrev pub last_cases : Choices LastCases
last_cases = either_case blob (either_case failure (unit_case 255))

abbrev message_codec : Codec (FirstCases ⊎ LastCases)
message_codec = prefixed_codec (choices_behind (either_case first_cases last_cases) (unsigned_numbers 1))

first_cases_wrong : CasesWrong first_cases
first_cases_wrong =
    cases_wrong (unit_case 1) (either_case hello readings)
    (without_wrong 1)
    (cases_wrong hello readings
    (case_wrong 2 (pair_codec lent_text (option_codec lent_text))
    (pair_wrong _ _ text_wrong (option_wrong _ text_wrong)))
    (case_wrong 3 (pair_codec (unsigned_codec 2) (list_codec (pair_codec (unsigned_codec 4) (signed_codec w32))))
    (pair_wrong _ _ (number_wrong 2) readings_wrong)))

last_cases_wrong : CasesWrong last_cases
last_cases_wrong =
    cases_wrong blob (either_case failure (unit_case 255))
    (case_wrong 4 (borrowed_codec (list_codec (unsigned_codec 1))) bytes_wrong)
    (cases_wrong failure (unit_case 255)
    (case_wrong 5 (pair_codec (unsigned_codec 4) lent_text) (pair_wrong _ _ (number_wrong 4) text_wrong))
    (without_wrong 255))

abbrev pub framed : Format (FirstCases ⊎ LastCases)
framed = (prefixed_codec (frame_behind (whole_codec message_codec) (unsigned_numbers 2))).format little

pub framed_wrong : NamesWrong framed
framed_wrong =
    let wrong = cases_wrong first_cases last_cases first_cases_wrong last_cases_wrong in
    frame_wrong _ (tagged_wrong (either_case first_cases last_cases) wrong)

-- what is broken has the two bytes of a frame's number
pub framed_whole : (bytes : List ℕ) → framed.malformed bytes → 2 ≤ length bytes
unfolding frame coding sequence raw_bytes unsigned_number
framed_whole bytes (inl (inl none)) = absurd none
framed_whole bytes (inl (inr (n, broken))) = absurd broken.second_is
framed_whole bytes (inr nothing) =
    let number = nothing.code_is.first_is.width_is in
    let inner = ap length nothing.code_is.whole_is ∙ length-append nothing.code_is.prefix nothing.code_is.suffix in
    let outer = ap length nothing.whole_is ∙ length-append nothing.prefix nothing.rest in
    omega arith

-- ---- a frame with whatever stands in it

abbrev pub any_frame_in : Mode → Format (List ℕ)
any_frame_in mode = borrowed_content (prefixed_list (unsigned_number 2 mode) (unsigned_number 1 mode))

abbrev pub any_frame : Format (List ℕ)
any_frame = any_frame_in little

pub any_frame_wrong : NamesWrong any_frame
unfolding sequence unsigned_number vector repeat owned_content borrowed_content
any_frame_wrong kind (inl none) = absurd none
any_frame_wrong kind (inr (n, none)) = absurd none

pub any_frame_whole : (bytes : List ℕ) → any_frame.malformed bytes → 2 ≤ length bytes
unfolding sequence unsigned_number vector repeat owned_content borrowed_content
any_frame_whole bytes (inl none) = absurd none
any_frame_whole bytes (inr (n, broken)) =
    let number = broken.first_is.width_is in
    let joined = ap length broken.whole_is ∙ length-append broken.prefix broken.suffix in
    omega arith
