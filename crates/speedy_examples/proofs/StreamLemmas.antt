-- Messages that are read from a source one after another, until it ends.
use Rattle.std.specs.Prelude.{◌≡◌, ℕ, ◌-◌, ◌^◌, ◌<◌, ◌≤◌, List, [], ◌∷◌, ◌++◌, length, Bool, IsTrue, ◌⊎◌, Result, Ok}
use Rattle.std.specs.Prelude.{Err, OnOk, refl}
use Rattle.std.proofs.Common.{sym, ◌∙◌, ap, subst, arith, inl, inr}
use Rattle.std.proofs.lemmas.List.{append_assoc, append-nil, length-append}
use Rattle.speedy.specs.declared.error.Error.{Error}
use Rattle.speedy.specs.declared.error.ErrorKind.TheVariants as kinds
use Rattle.speedy.specs.Error.{error_of}
use Rattle.speedy.specs.MemoryDevices.{bytes_source, no_faults}
use Rattle.speedy.specs.Device.{SourceState}
use Rattle.speedy.specs.Digits.{AreBytes}
use Rattle.speedy.specs.DigitsLemmas.{AreBytes-append_parts}
use Rattle.speedy.specs.Mode.{plain_mode}
use Rattle.speedy.specs.declared.endianness.Endianness.TheVariants.{LittleEndian}
use Rattle.speedy.specs.FailedCalls.{IsOfFailedCall}
use Rattle.speedy.specs.Format.{Each, Format}
use Rattle.speedy.specs.Laws.{Laws}
use Rattle.speedy.specs.Lists.{each_append, each_size}
use Rattle.speedy.specs.Reading.{ReaderKind, ReaderState, IsTold}
use Rattle.speedy.specs.Tuples.{unit}
use Rattle.speedy.specs.WaysOfReading.{WantsMemory, AnswersStreamIn}
use Rattle.speedy_examples.proofs.Messages.{Message, message, message_in, message_laws, told_message}
use Rattle.speedy_examples.proofs.NextLemmas.{NextRefused}
use Rattle.speedy_examples.specs.Callers.{itself, IsFailure}

-- a value of no bytes leaves the source as it was
pub nothing_taken : {E A : Type 0} {gives : Error → E → Type 0} {eof : E → Bool}
    {seen : A → Unit {0}} {buffers : Bool} (result : Result A E)
    {old new : SourceState} → AnswersStreamIn gives eof seen unit buffers result old new → OnOk result (new ≡ old)
unfolding unit
nothing_taken (Ok x) a = a.value.untouched a.value.prefix_is
nothing_taken (Err e) a = tt

-- the bytes at the front of what the source had encode these values, and the others are still there
pub record ReadSoFar {V : Type 0} (encodes : V → List ℕ → Type 0) (values : List V) (before : SourceState)
    (now : ReaderState) : Type 0 where
  pub bytes : List ℕ
  pub read : Each encodes values bytes
  pub same_tells : now.fixed.tells ≡ before.tells
  pub left : IsTrue before.tells → before.remaining ≡ bytes ++ now.remaining

pub none_read : {V : Type 0} {encodes : V → List ℕ → Type 0}
    {values : List V} {before : SourceState} {now : ReaderState}
    → values ≡ [] → now.fixed.tells ≡ before.tells → now.remaining ≡ before.remaining
    → ReadSoFar encodes values before now
none_read {encodes = encodes} none tells remaining = record {
  bytes = [];
  read = subst (λ vs. Each encodes vs []) (sym none) refl;
  same_tells = tells;
  left = λ _. sym remaining;
}

pub one_more_read : {V : Type 0} {encodes : V → List ℕ → Type 0} {values more : List V} {before : SourceState}
    {now after : ReaderState} (value : V) → ReadSoFar encodes values before now → more ≡ values ++ (value ∷ [])
    → after.fixed ≡ now.fixed
    → (prefix : List ℕ) × encodes value prefix × (IsTrue now.fixed.tells → now.remaining ≡ prefix ++ after.remaining)
    → ReadSoFar encodes more before after
one_more_read {encodes = encodes} {values = values} {before = before} {after = after} value so_far more_is fixed
    (prefix, prefix_is, taken) = record {
      bytes = so_far.bytes ++ prefix;
      read =
          subst (λ vs. Each encodes vs (so_far.bytes ++ prefix)) (sym more_is)
          (each_append encodes values (value ∷ []) so_far.bytes prefix so_far.read
          (record {
            prefix = prefix;
            suffix = [];
            whole_is = sym (append-nil prefix);
            first_is = prefix_is;
            second_is = refl;
          }));
      same_tells = ap (λ (kind : ReaderKind). kind.tells) fixed ∙ so_far.same_tells;
      left = λ told.
          so_far.left told
          ∙ (ap (λ rest. so_far.bytes ++ rest) (taken (subst IsTrue (sym so_far.same_tells) told))
          ∙ sym (append_assoc so_far.bytes prefix after.remaining));
    }

-- where the source is at its end, all that it had was read
pub all_read : {V : Type 0} {encodes : V → List ℕ → Type 0} {values : List V} {before : SourceState} {now : ReaderState}
    → ReadSoFar encodes values before now
    → (IsTrue now.fixed.tells → AreBytes now.remaining → length now.remaining < 2 ^ 64 - 1 → now.remaining ≡ [])
    → (bytes : List ℕ) × Each encodes values bytes
    × (IsTrue before.tells → AreBytes before.remaining → length before.remaining < 2 ^ 64 - 1
    → before.remaining ≡ bytes)
all_read {before = before} {now = now} so_far ended = (
  so_far.bytes,
  so_far.read,
  λ told are_bytes fit.
      let left = so_far.left told in
      let rest = (AreBytes-append_parts so_far.bytes now.remaining (subst AreBytes left are_bytes)).1 in
      let size = ap length left ∙ length-append so_far.bytes now.remaining in
      let none = ended (subst IsTrue (sym so_far.same_tells) told) rest (omega arith) in
      left ∙ (ap (λ end. so_far.bytes ++ end) none ∙ append-nil so_far.bytes),
)

-- what is left of a list of values behind those that were read
left_of : {V : Type 0} {strict : Bool} {least : ℕ} {F : Format V} → Laws strict least F → 0 < least
    → (read values : List V) (bytes rest whole : List ℕ)
    → Each F.encodes read bytes → Each F.encodes values whole → whole ≡ bytes ++ rest
    → (more : List V) × Each F.encodes more rest
left_of {F = F} laws some [] values bytes rest whole h k is =
    (values, subst (Each F.encodes values) (is ∙ ap (λ b. b ++ rest) h) k)
left_of laws some (v ∷ read) [] bytes rest whole h k is =
    let first = laws.least_size v h.prefix h.first_is in
    let size = ap length (sym is ∙ k) in
    let sizes = length-append bytes rest in
    let parts = ap length h.whole_is ∙ length-append h.prefix h.suffix in
    absurd (omega arith)
left_of laws some (v ∷ read) (w ∷ values) bytes rest whole h k is =
    let joined = sym k.whole_is ∙ (is ∙ (ap (λ b. b ++ rest) h.whole_is ∙ append_assoc h.prefix h.suffix rest)) in
    let same = laws.decodes w v k.prefix h.prefix k.suffix (h.suffix ++ rest) k.first_is h.first_is joined in
    left_of laws some read values h.suffix rest k.suffix h.second_is k.second_is same.2

-- why a message was refused where the source had nothing but messages: none is left, or it is there
pub refused_by_failure : {values : List Message} {before : SourceState} {now after : ReaderState} {e : Error}
    (all : List Message)
    → ReadSoFar message.encodes values before now → Each message.encodes all before.remaining
    → now.mode ≡ (plain_mode LittleEndian) → IsTrue before.tells → AreBytes before.remaining
    → length before.remaining < 2 ^ 64 - 1
    → IsTrue now.fixed.tells_faults → NextRefused e now after
    → (IsTold (message_in now.mode) now → IsTrue now.fixed.tells_faults → now.remaining ≡ [] → IsFailure e)
    → IsFailure e
refused_by_failure {values = values} {before = before} {now = now} {after = after} {e = e} all so_far messages mode
    tells are_bytes fit tells_faults refused ended =
    let left = so_far.left tells in
    let more = left_of (message_laws (plain_mode LittleEndian)) (omega arith) values all so_far.bytes now.remaining
    before.remaining so_far.read messages left in
    let sizes = ap length left ∙ length-append so_far.bytes now.remaining in
    let told = told_message now.mode (subst IsTrue (sym so_far.same_tells) tells)
    (AreBytes-append_parts so_far.bytes now.remaining (subst AreBytes left are_bytes)).1 (omega arith) in
    of more.0 more.1 told refused where
      of : (more : List Message) → Each message.encodes more now.remaining → IsTold (message_in now.mode) now
          → NextRefused e now after → IsFailure e
      of [] none told refused = ended told tells_faults none
      of (m ∷ more) some told (inl wants) = inl wants.0
      of (m ∷ more) some told (inr (inl (inl wants))) = inl wants.0
      of (m ∷ more) some told (inr (inl (inr fault))) = let failed = fault.1 tells_faults in inr (failed.0, failed.2)
      of (m ∷ more) some told (inr (inr refused)) =
          absurd ((refused.because told).no_prefix m some.prefix some.suffix some.whole_is (rw mode some.first_is))

-- no source has so many messages that their number is no `u64`
pub not_so_many : {values : List Message} {before : SourceState} {now : ReaderState}
    → ReadSoFar message.encodes values before now → 2 ^ 64 - 1 ≤ length values
    → IsTrue before.tells → length before.remaining < 2 ^ 64 - 1 → ⊥
not_so_many {values = values} {now = now} so_far many tells fit =
    let size = each_size (message_laws (plain_mode LittleEndian)) values so_far.bytes so_far.read in
    let sizes = ap length (so_far.left tells) ∙ length-append so_far.bytes now.remaining in
    omega arith

-- bytes in memory are a source of which no call fails
pub wants_memory : {buffers takes : Bool} {e : Error} {bytes left : List ℕ}
    → WantsMemory itself takes buffers e (bytes_source bytes) (bytes_source left)
    ⊎ IsOfFailedCall itself e no_faults no_faults
    → e ≡ error_of kinds.OutOfMemory
wants_memory (inl wants) = wants.given
wants_memory (inr failed) = let one = failed.1.0 in absurd (omega arith)
