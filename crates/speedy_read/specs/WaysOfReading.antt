-- What the ways of reading answer.
use Rattle.std.specs.Prelude.{◌≡◌, ℕ, ◌≤◌, ◌<◌, ◌-◌, ◌^◌, List, [], ◌++◌, length, Bool, true, false, IsTrue, ◌⊎◌}
use Rattle.std.specs.Prelude.{Result, MatchResult, IfOk, IfErr, IsErrAnd}
use Rattle.std.specs.declared.io.Error.{Error as StdIoError}
use Rattle.speedy_base.specs.Device.{SourceState, SourceKept}
use Rattle.speedy_base.specs.Digits.{AreBytes}
use Rattle.speedy_base.specs.declared.error.ErrorKind.{ErrorKind}
use Rattle.speedy_base.specs.declared.error.ErrorKind.TheVariants as kinds
use Rattle.speedy_base.specs.declared.error.Error.{Error}
use Rattle.speedy_base.specs.Mode.{Mode}
use Rattle.speedy_base.specs.Error.{error_of, Errors, IsNamed}
use Rattle.speedy_base.specs.FailedCalls.{IsErrorOf, IsOfFailedCall}
use Rattle.speedy_layout.specs.Codecs.{Codec}
use Rattle.speedy_layout.specs.Format.{Format}
use Rattle.speedy_read.specs.Reading.{refusing_kinds, IsEnd, Undecodable}
use Rattle.speedy_read.specs.StreamModel.{most_held}
use Rattle.speedy_read.specs.Streams.{LeavesTail}

-- a prefix of n bytes is encoded so
pub record Counts (encoded : List ℕ → Type 0) (count : ℕ) (bytes : List ℕ) : Type 0 where
  pub prefix : List ℕ
  pub rest : List ℕ
  pub whole_is : bytes ≡ prefix ++ rest
  pub prefix_is : encoded prefix
  pub count_is : count ≡ length prefix

-- two prefixes of what a source had were taken, by calls that did not fail: one that is encoded so, and at most n
-- bytes that were read ahead
pub record TookPrefix (encoded : List ℕ → Type 0) (most : ℕ) (old new : SourceState) : Type 0 where
  pub prefix : List ℕ
  pub ahead : List ℕ
  pub prefix_is : encoded prefix
  pub at_most : length ahead ≤ most
  pub taken : IsTrue old.tells → old.remaining ≡ prefix ++ (ahead ++ new.remaining)
  pub no_fault : new.faults ≡ old.faults
  -- a value of no bytes leaves the source as it was
  pub untouched : prefix ≡ [] → new ≡ old

-- want of memory, for a value that asks for it or, before the source is called, for what is read ahead
pub record WantsMemory {E : Type 0} (gives : Error → E → Type 0) (takes buffers : Bool) (e : E)
    (old new : SourceState) : Type 0 where
  pub given : gives (error_of kinds.OutOfMemory) e
  pub of : IsTrue takes ⊎ (IsTrue buffers × (new ≡ old))
  pub no_fault : new.faults ≡ old.faults

module _ {E : Type 0} (gives : Error → E → Type 0) (eof : E → Bool) where
  -- bytes that encode no value at their start are refused: as `UnexpectedEndOfInput` where they may begin an encoding,
  -- and else so or with one of these kinds; a refusal means so where this holds
  pub record RefusesBufferIf {V : Type 0} (holds : Type 0)
      (names : ErrorKind → Type 0) (L : Format V) (e : E) (bytes : List ℕ) : Type 0 where
    pub kind : IsEnd gives eof false e ⊎ IsNamed gives names e
    pub because : holds → Undecodable gives eof L e bytes

  -- What a function that reads from a buffer answers: a buffer that is shorter than the least size is refused with both
  -- sizes; else a value is answered exactly when a prefix of the bytes encodes it, where this holds, and the count is
  -- the length of that prefix. Whatever is answered, the count is at most the number of the bytes.
  pub record AnswersBufferIf {A V : Type 0} (holds : Type 0) (names : ErrorKind → Type 0)
      (seen : A → V) (least : ℕ) (L : Format V)
      (result : Result A E) (count : ℕ) (bytes : List ℕ) : Type 0 where
    pub within : count ≤ length bytes
    pub too_small : length bytes < least
        → IsErrAnd result (λ e. gives (error_of (kinds.InputBufferIsTooSmall (length bytes) least)) e) × (count ≡ 0)
    pub value : IfOk result (λ x. Counts (L.encodes (seen x)) count bytes)
    pub refused : least ≤ length bytes
        → IfErr result (λ e. (gives (error_of kinds.OutOfMemory) e × IsTrue L.asks.memory)
        ⊎ RefusesBufferIf holds names L e bytes)

  -- a clean refusal of what a source gives: where its bytes are told, fewer than `usize::MAX` of them, and the type
  -- borrows nothing, no prefix of them encodes a value
  pub record RefusesStream {V : Type 0} (L : Format V) (e : E) (old new : SourceState) : Type 0 where
    pub no_fault : new.faults ≡ old.faults
    pub kind : IsEnd gives eof true e ⊎ IsNamed gives (refusing_kinds L false) e
    pub because : IsTrue old.tells → AreBytes old.remaining → length old.remaining < 2 ^ 64 - 1 → L.asks.lending ≡ false
        → Undecodable gives eof L e old.remaining

  -- What a function that reads from a source answers. A value that is answered is encoded by a prefix of what the
  -- source had, and the source lost that prefix, and as many bytes more as may be read ahead. A refusal is what a
  -- failed call answered, which was the only one; or no call failed, and it is want of memory, or what the bytes are
  -- refused with.
  pub record AnswersStreamIn {A V : Type 0} (seen : A → V) (L : Format V) (buffers : Bool) (result : Result A E)
      (old new : SourceState) : Type 0 where
    pub kept : SourceKept old new
    pub tail : LeavesTail old new
    pub value : IfOk result (λ x. TookPrefix (L.encodes (seen x)) (most_held buffers) old new)
    pub refused : IfErr result
        (λ e. WantsMemory gives L.asks.memory buffers e old new
        ⊎ (IsOfFailedCall gives e old.faults new.faults ⊎ RefusesStream L e old new))

  -- What a function that reads from a file answers: a value that is answered is encoded by some bytes, and a refusal is
  -- what some failed call answered, want of memory, an end, or of a kind that the type names. No contract sees the
  -- bytes of a file, or which of its calls failed.
  abbrev pub AnswersFileIn : {A V : Type 0} → (A → V) → Format V → Result A E → Type 0
  AnswersFileIn seen L result = MatchResult result (λ x. (bytes : List ℕ) × L.encodes (seen x) bytes)
      (λ e. ((error : StdIoError) × IsErrorOf gives error e)
      ⊎ (gives (error_of kinds.OutOfMemory) e
      ⊎ (IsEnd gives eof true e ⊎ IsNamed gives (refusing_kinds L false) e)))

-- ---- the words of contracts

-- They take what is known of the errors, `C.Error.IsEof`, and the mode that the context asks.
module _ {E : Type 0} (errors : Errors E) where
  -- from a buffer that is lent: refused with the kinds that the type names
  abbrev pub AnswersBuffer : {A V : Type 0} → (A → V) → Codec V → Mode → Result A E → ℕ → List ℕ → Type 0
  AnswersBuffer seen codec mode result count bytes =
      let format = codec.format mode in
      let names = format.names in
      AnswersBufferIf errors.from_gives errors.eof (Unit {0}) names seen codec.least format result count bytes

  -- from one that is copied: what borrows may be refused as `Unsized`, though the bytes encode a value
  abbrev pub AnswersCopied : {A V : Type 0} → (A → V) → Codec V → Mode → Result A E → ℕ → List ℕ → Type 0
  AnswersCopied seen codec mode result count bytes =
      let format = codec.format mode in
      let names = refusing_kinds format false in
      let holds = format.asks.lending ≡ false in
      AnswersBufferIf errors.from_gives errors.eof holds names seen codec.least format result count bytes

  -- from a source, which is seen so, read ahead or not
  abbrev pub AnswersStream : {S A V : Type 0} → (S → SourceState) → (A → V) → Codec V → Mode → Bool → Result A E
      → S → S → Type 0
  AnswersStream source seen codec mode buffers result old new =
      let format = codec.format mode in
      AnswersStreamIn errors.from_gives errors.eof seen format buffers result (source old) (source new)

  -- from a file
  abbrev pub AnswersFile : {A V : Type 0} → (A → V) → Codec V → Mode → Result A E → Type 0
  AnswersFile seen codec mode = AnswersFileIn errors.from_gives errors.eof seen (codec.format mode)
