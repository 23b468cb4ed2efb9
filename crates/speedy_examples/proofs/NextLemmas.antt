-- The next message of a reader: a peek of a byte, and then the read.
use Rattle.std.specs.Prelude.{◌≡◌, ◌≢◌, ℕ, ◌<◌, List, [], ◌∷◌, length, Bool, false, IsTrue, ◌⊎◌, Result, Ok, Err, refl}
use Rattle.std.proofs.Common.{sym, ◌∙◌, ap, subst, arith, inl, inr}
use Rattle.std.proofs.lemmas.List.{length-append}
use Rattle.speedy.specs.declared.error.Error.{Error}
use Rattle.speedy.specs.declared.error.ErrorKind.TheVariants as kinds
use Rattle.speedy.specs.Digits.{AreBytes, number}
use Rattle.speedy.specs.Mode.{Mode}
use Rattle.speedy.specs.Error.{error_of, kind_of, is_eof_error, IsIoErrorOf, IsNamed}
use Rattle.speedy.specs.FailedCalls.{IsOfFailedCall}
use Rattle.speedy.specs.Numbers.{unsigned_number}
use Rattle.speedy.specs.Reading.{ReaderState, refusing_kinds, Excused, IsEnd, IsTold, PeekWants, Peeks, Reads, Refused}
use Rattle.speedy.specs.Reading.{Undecodable}
use Rattle.speedy_examples.proofs.Messages.{Message, message_in, message_lends_nothing, message_asks_memory}
use Rattle.speedy_examples.proofs.Messages.{message_laws, no_empty_message, nothing_malformed, end_kind}
use Rattle.speedy_examples.specs.Callers.{itself, IsFailure, IsRefusal}

-- why the next message is refused
abbrev pub NextRefused : Error → ReaderState → ReaderState → Type 0
NextRefused e old new =
    PeekWants itself e old new
    ⊎ (Excused itself (message_in old.mode).asks.memory e old new
    ⊎ Refused itself is_eof_error (message_in old.mode) e old new)

-- what a peek of a byte answers
abbrev PeeksByte : Result ℕ Error → ReaderState → ReaderState → Type 0
PeeksByte result old new = Peeks itself is_eof_error (λ (n : ℕ). n) (unsigned_number 1 old.mode) result old new

-- any byte encodes a number
byte_encoded : (mode : Mode) (b : ℕ) → b < 256
    → (unsigned_number 1 mode).encodes (number mode.order (b ∷ [])) (b ∷ [])
unfolding unsigned_number
byte_encoded mode b h = record { width_is = refl; are_bytes = (h, tt); value_is = refl }

byte_lends_nothing : (mode : Mode) → (unsigned_number 1 mode).asks.lending ≡ false
unfolding unsigned_number
byte_lends_nothing mode = refl

told_byte : {old : ReaderState} → IsTold (message_in old.mode) old → IsTold (unsigned_number 1 old.mode) old
told_byte {old = old} told = record {
  tells = told.tells;
  are_bytes = told.are_bytes;
  fit = told.fit;
  lends = λ h. absurd (let none : IsTrue false = subst IsTrue (byte_lends_nothing old.mode) h in cc);
}

no_byte : {e : Error} {old new : ReaderState} → Refused itself is_eof_error (unsigned_number 1 old.mode) e old new
    → IsTold (message_in old.mode) old → old.remaining ≡ []
no_byte {old = old} refused told = go old.remaining refl where
  go : (bytes : List ℕ) → old.remaining ≡ bytes → bytes ≡ []
  go [] is = refl
  go (b ∷ rest) is =
      absurd ((refused.because (told_byte told)).no_prefix _ (b ∷ []) rest is
      (byte_encoded old.mode b (subst AreBytes is told.are_bytes).0))

-- a byte names no kind of its own
byte_end : (by_device lends : Bool) {e : Error} (mode : Mode)
    → IsEnd itself is_eof_error by_device e ⊎ IsNamed itself (refusing_kinds (unsigned_number 1 mode) lends) e
    → IsEnd itself is_eof_error by_device e
unfolding unsigned_number
byte_end by_device lends mode (inl ends) = ends
byte_end by_device lends mode (inr (kind, inl named, given)) = absurd named
byte_end by_device lends mode (inr (kind, inr unlent, given)) = absurd (let none = unlent.0 in cc)

-- where a peek of a byte says that the input ended, none is left: no failed call says so
pub peeked_end : {e : Error} {old new : ReaderState}
    → (let refused : Result ℕ Error = Err e in PeeksByte refused old new) → kind_of e ≡ kinds.UnexpectedEndOfInput
    → IsTold (message_in old.mode) old → IsTrue old.fixed.tells_faults → old.remaining ≡ []
peeked_end {e = e} {old = old} {new = new} peeks is told tells_faults = of peeks.answer where
  not_memory : e ≡ error_of kinds.OutOfMemory → ⊥
  not_memory memory = let other = sym is ∙ ap kind_of memory in absurd (cc)

  not_fault : IsOfFailedCall itself e old.faults new.faults → ⊥
  not_fault (error, one, named) = subst (IsIoErrorOf error) (sym (ap kind_of named.2) ∙ is) named.1

  of : PeekWants itself e old new
      ⊎ (Excused itself (unsigned_number 1 old.mode).asks.memory e old new
      ⊎ Refused itself is_eof_error (unsigned_number 1 old.mode) e old new) → old.remaining ≡ []
  of (inl wants) = absurd (not_memory wants.0)
  of (inr (inl (inl wants))) = absurd (not_memory wants.0)
  of (inr (inl (inr fault))) = absurd (not_fault (fault.1 tells_faults))
  of (inr (inr refused)) = no_byte refused told

-- where the peek is refused, so is the message
pub peek_refused : {e : Error} {old new : ReaderState}
    → (let refused : Result ℕ Error = Err e in PeeksByte refused old new) → NextRefused e old new
peek_refused {e = e} {old = old} {new = new} peeks = of peeks.answer where
  nothing : IsEnd itself is_eof_error old.fixed.ends_by_device e → old.remaining ≡ []
      → Undecodable itself is_eof_error (message_in old.mode) e old.remaining
  nothing ends none = record {
    no_prefix = λ m prefix rest whole encoded. no_empty_message old.mode m prefix rest encoded (sym whole ∙ none);
    too_short = λ _ _ _. ends.1;
    malformed = λ bad. absurd (nothing_malformed old.mode (subst (message_in old.mode).malformed none bad));
    wrong_length = λ wrong.
        let bad = (message_laws old.mode).wrong_length_malformed old.remaining wrong in
        absurd (nothing_malformed old.mode (subst (message_in old.mode).malformed none bad));
  }

  of : PeekWants itself e old new
      ⊎ (Excused itself (unsigned_number 1 old.mode).asks.memory e old new
      ⊎ Refused itself is_eof_error (unsigned_number 1 old.mode) e old new) → NextRefused e old new
  of (inl wants) = inl wants
  of (inr (inl (inl wants))) = inr (inl (inl (wants.0, inl (message_asks_memory old.mode), wants.2)))
  of (inr (inl (inr fault))) = inr (inl (inr fault))
  of (inr (inr refused)) =
      let ends = byte_end old.fixed.ends_by_device old.fixed.lends old.mode refused.kind in
      inr (inr (record {
        no_fault = refused.no_fault;
        kind = inl ends;
        because = λ told. nothing ends (no_byte refused told);
      }))

-- and so it is where the read behind the peek is
pub read_refused : {A : Type 0} {seen : A → Message} {e : Error} {b : ℕ} {old mid new : ReaderState}
    → (let peeked : Result ℕ Error = Ok b in PeeksByte peeked old mid)
    → (let refused : Result A Error = Err e in Reads itself is_eof_error seen (message_in mid.mode) refused mid new)
    → NextRefused e old new
read_refused {e = e} {old = old} {mid = mid} {new = new} peeks reads = of reads.answer where
  fixed : mid.fixed ≡ old.fixed
  fixed = peeks.kept.fixed

  mode : mid.mode ≡ old.mode
  mode = peeks.kept.mode

  same_faults : mid.faults ≡ old.faults
  same_faults = peeks.answer.no_fault

  told_after : IsTold (message_in old.mode) old → IsTold (message_in mid.mode) mid
  told_after told =
      let same = peeks.kept.remaining told.tells in
      record {
        tells = rw fixed told.tells;
        are_bytes = rw same told.are_bytes;
        fit = rw same told.fit;
        lends = rw (fixed, mode) told.lends;
      }

  of : Excused itself (message_in mid.mode).asks.memory e mid new
      ⊎ Refused itself is_eof_error (message_in mid.mode) e mid new → NextRefused e old new
  of (inl (inl wants)) = inr (inl (inl (wants.0, inl (message_asks_memory old.mode), wants.2 ∙ same_faults)))
  of (inl (inr fault)) = inr (inl (inr (rw (fixed, same_faults) at fault)))
  of (inr refused) = inr (inr (record {
    no_fault = refused.no_fault ∙ same_faults;
    kind = rw (fixed, mode) at refused.kind;
    because = λ told. rw (mode, peeks.kept.remaining told.tells) at (refused.because (told_after told));
  }))

-- where no byte is left, the peek is refused, and only memory or the device is at fault
pub ended_by_failure : {e : Error} {old new : ReaderState} → IsTrue old.fixed.tells_faults
    → e ≢ error_of kinds.UnexpectedEndOfInput
    → (let refused : Result ℕ Error = Err e in PeeksByte refused old new) → IsFailure e
ended_by_failure {e = e} {old = old} {new = new} tells_faults other peeks = of peeks.answer where
  only_device : IsFailure e ⊎ (e ≡ error_of kinds.UnexpectedEndOfInput) → IsFailure e
  only_device (inl failure) = failure
  only_device (inr is) = absurd (other is)

  of : PeekWants itself e old new
      ⊎ (Excused itself (unsigned_number 1 old.mode).asks.memory e old new
      ⊎ Refused itself is_eof_error (unsigned_number 1 old.mode) e old new) → IsFailure e
  of (inl wants) = inl wants.0
  of (inr (inl (inl wants))) = inl wants.0
  of (inr (inl (inr fault))) = let failed = fault.1 tells_faults in inr (failed.0, failed.2)
  of (inr (inr refused)) = let ends = byte_end old.fixed.ends_by_device old.fixed.lends old.mode refused.kind in
      only_device (end_kind old.fixed.ends_by_device ends.0.0 ends.0.1 ends.0.2)

pub not_ended : {b : ℕ} {old mid : ReaderState} → (let peeked : Result ℕ Error = Ok b in PeeksByte peeked old mid)
    → IsTrue old.fixed.tells → old.remaining ≢ []
unfolding unsigned_number
not_ended peeks tells none =
    let ahead = peeks.answer in
    let size = ap length (sym (ahead.stands tells) ∙ none) in
    let sizes = length-append ahead.prefix ahead.rest in
    let one = ahead.prefix_is.width_is in
    absurd (omega arith)

-- what the next message of a reader that tells its failed calls is refused with
pub next_kind : {e : Error} {old new : ReaderState} → IsTrue old.fixed.tells_faults → NextRefused e old new
    → IsFailure e ⊎ IsRefusal (message_in old.mode) e
next_kind {e = e} {old = old} {new = new} tells_faults refused = of refused where
  of_end : IsFailure e ⊎ (e ≡ error_of kinds.UnexpectedEndOfInput) → IsFailure e ⊎ IsRefusal (message_in old.mode) e
  of_end (inl failure) = inl failure
  of_end (inr is) = inr (inr (inl is))

  of_kind : IsEnd itself is_eof_error old.fixed.ends_by_device e
      ⊎ IsNamed itself (refusing_kinds (message_in old.mode) old.fixed.lends) e
      → IsFailure e ⊎ IsRefusal (message_in old.mode) e
  of_kind (inl ends) = of_end (end_kind old.fixed.ends_by_device ends.0.0 ends.0.1 ends.0.2)
  of_kind (inr (kind, inl named, given)) = inr (inl (kind, named, given))
  of_kind (inr (kind, inr unlent, given)) =
      absurd (let none : IsTrue false = subst IsTrue (message_lends_nothing old.mode) unlent.0 in cc)

  of : NextRefused e old new → IsFailure e ⊎ IsRefusal (message_in old.mode) e
  of (inl wants) = inl (inl wants.0)
  of (inr (inl (inl wants))) = inl (inl wants.0)
  of (inr (inl (inr fault))) = let failed = fault.1 tells_faults in inl (inr (failed.0, failed.2))
  of (inr (inr it)) = of_kind it.kind
