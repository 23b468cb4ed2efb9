-- Messages: a number and a text.
use Rattle.std.specs.Prelude.{◌≡◌, ◌⊎◌, ◌≢◌, ℕ, ◌-◌, ◌^◌, ◌<◌, List, [], ◌++◌, length, Bool, false, IsTrue, String}
use Rattle.std.specs.Prelude.{Result, Ok, Err, IfErr, refl}
use Rattle.std.proofs.Common.{◌∙◌, ap, subst, arith, inl, inr}
use Rattle.std.proofs.lemmas.Bool.{cases_lt}
use Rattle.std.proofs.lemmas.List.{length-append}
use Rattle.std.specs.String.{string_bytes}
use Rattle.std.specs.declared.alloc.Global.{Global}
use Rattle.speedy.specs.declared.endianness.Endianness.TheVariants.{LittleEndian}
use Rattle.speedy.specs.declared.error.Error.{Error}
use Rattle.speedy.specs.declared.error.ErrorKind.{ErrorKind}
use Rattle.speedy.specs.declared.error.ErrorKind.TheVariants as kinds
use Rattle.speedy.specs.Codes.{coding}
use Rattle.speedy.specs.Digits.{AreBytes}
use Rattle.speedy.specs.Mode.{Mode, plain_mode}
use Rattle.speedy.specs.Error.{error_of, is_eof_error, IsNamed}
use Rattle.speedy.specs.ErrorKind.{EndsInput}
use Rattle.speedy.specs.Format.{Format}
use Rattle.speedy.specs.Laws.{Laws}
use Rattle.speedy.specs.Numbers.{unsigned_number, unsigned_codec}
use Rattle.speedy.specs.Owned.{owned_content, borrowed_content}
use Rattle.speedy.specs.Reading.{ReaderState, IsTold, IsEnd}
use Rattle.speedy.specs.Sequences.{sequence}
use Rattle.speedy.specs.Texts.{raw_bytes, text_of_length, text, text_codec}
use Rattle.speedy.specs.Tuples.{pair, pair_codec}
use Rattle.speedy.specs.WaysOfReading.{AnswersBufferIf}
use Rattle.speedy_examples.specs.Callers.{itself, IsFailure}

-- a message, as its layout sees it, and its format
abbrev pub Message : Type 0
Message = ℕ × List ℕ

abbrev pub seen_message : ℕ × String Global → Message
seen_message message = (message.0, string_bytes message.1)

abbrev pub message_in : Mode → Format Message
message_in mode = pair (unsigned_number 2 mode) (text mode)

abbrev pub message : Format Message
message = message_in (plain_mode LittleEndian)

pub message_laws : (mode : Mode) → Laws mode.strict 6 (message_in mode)
message_laws = (pair_codec (unsigned_codec 2) text_codec).laws

pub message_lends_nothing : (mode : Mode) → (message_in mode).asks.lending ≡ false
unfolding sequence unsigned_number text
message_lends_nothing mode = refl

pub message_asks_memory : (mode : Mode) → IsTrue (message_in mode).asks.memory
unfolding sequence unsigned_number text
message_asks_memory mode = refl

-- bytes in memory end as `UnexpectedEndOfInput`
memory_end : {e : Error} (kind : ErrorKind) → EndsInput false kind → e ≡ error_of kind
    → e ≡ error_of kinds.UnexpectedEndOfInput
memory_end kinds.UnexpectedEndOfInput ends is = is
memory_end (kinds.IoError boxed) ends is = absurd (let never = ends.1 in cc)
memory_end _ ends is = absurd ends

-- a message whose text is borrowed names one kind of refusal
pub lent_message_names : (kind : ErrorKind)
    → (pair (unsigned_number 2 (plain_mode LittleEndian))
    (borrowed_content (text (plain_mode LittleEndian)))).names kind
    → kind ≡ kinds.InvalidUtf8
unfolding sequence unsigned_number text text_of_length raw_bytes coding owned_content borrowed_content
lent_message_names kind (inl none) = absurd none
lent_message_names kind (inr (n, inl none)) = absurd none
lent_message_names kind (inr (n, inr (count, inl none))) = absurd none
lent_message_names kind (inr (n, inr (count, inr (inl is)))) = is
lent_message_names kind (inr (n, inr (count, inr (inr demand)))) = absurd (let never = demand.0 in cc)

-- which kinds a message is refused with whose text is borrowed from the bytes
pub message_kind : {A : Type 0} {seen : A → Message} {count : ℕ} {bytes : List ℕ} (result : Result A Error)
    → (let mode = plain_mode LittleEndian in
    let format = pair (unsigned_number 2 mode) (borrowed_content (text mode)) in
    AnswersBufferIf itself is_eof_error (Unit {0}) format.names seen 6 format result count bytes)
    → IfErr result (λ e. (e ≡ error_of kinds.InvalidUtf8)
    ⊎ ((e ≡ error_of kinds.UnexpectedEndOfInput) ⊎ (e ≡ error_of (kinds.InputBufferIsTooSmall (length bytes) 6))))
unfolding sequence unsigned_number text text_of_length raw_bytes coding owned_content borrowed_content
message_kind (Ok x) a = tt
message_kind {bytes = bytes} (Err e) a =
    elim (cases_lt (length bytes) 6) [
      | inl few ↦ inr (inr (a.too_small few).0)
      | inr enough ↦ elim (a.refused enough) [
        | inl want ↦ absurd (let never = want.1 in cc)
        | inr h ↦ of_kind h.kind
      ]
    ] where
      of_kind : IsEnd itself is_eof_error false e
          ⊎ IsNamed itself (pair (unsigned_number 2 (plain_mode LittleEndian))
          (borrowed_content (text (plain_mode LittleEndian)))).names e
          → (e ≡ error_of kinds.InvalidUtf8)
          ⊎ ((e ≡ error_of kinds.UnexpectedEndOfInput)
          ⊎ (e ≡ error_of (kinds.InputBufferIsTooSmall (length bytes) 6)))
      of_kind (inl ends) = inr (inl (memory_end ends.0.0 ends.0.1 ends.0.2))
      of_kind (inr named) = inl (named.2 ∙ ap error_of (lent_message_names named.0 named.1))

-- no message has no bytes, and no bytes are malformed as one
pub no_empty_message : (mode : Mode) (m : Message) (prefix rest : List ℕ) → (message_in mode).encodes m prefix
    → prefix ++ rest ≢ []
no_empty_message mode m prefix rest h none =
    let least = (message_laws mode).least_size m prefix h in
    let size = ap length none in
    let sizes = length-append prefix rest in
    absurd (omega arith)

pub nothing_malformed : (mode : Mode) → (message_in mode).malformed [] → ⊥
unfolding sequence unsigned_number text
nothing_malformed mode (inl none) = none
nothing_malformed mode (inr (n, parts)) =
    let size = ap length parts.whole_is in
    let sizes = length-append parts.prefix parts.suffix in
    let two = parts.first_is.width_is in
    absurd (omega arith)

-- a reader that tells its bytes tells those of messages, which borrow nothing
pub told_message : (mode : Mode) {state : ReaderState} → IsTrue state.fixed.tells → AreBytes state.remaining
    → length state.remaining < 2 ^ 64 - 1 → IsTold (message_in mode) state
told_message mode tells are_bytes fit = record {
  tells = tells;
  are_bytes = are_bytes;
  fit = fit;
  lends = λ h. absurd (let none : IsTrue false = subst IsTrue (message_lends_nothing mode) h in cc);
}

-- an end is `UnexpectedEndOfInput`, or the error of a device
pub end_kind : (by_device : Bool) {e : Error} (kind : ErrorKind) → EndsInput by_device kind → e ≡ error_of kind
    → IsFailure e ⊎ (e ≡ error_of kinds.UnexpectedEndOfInput)
end_kind by_device kinds.UnexpectedEndOfInput ends is = inr is
end_kind by_device (kinds.IoError boxed) ends is = inl (inr (boxed.value, (kinds.IoError boxed, refl, is)))
end_kind by_device _ ends is = absurd ends
