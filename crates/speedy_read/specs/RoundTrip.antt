-- What was written is what is read.
use Rattle.std.specs.Prelude.{◌≡◌, ℕ, ◌-◌, ◌^◌, ◌<◌, ◌≤◌, ◌⊎◌, List, ◌++◌, length, Bool, false, IsTrue, Result, IfOk}
use Rattle.std.specs.Prelude.{OnOk, IfErr, OnErr}
use Rattle.std.proofs.Common.{Fits, w8, get_or}
use Rattle.speedy_base.specs.declared.error.Error.{Error}
use Rattle.speedy_base.specs.declared.error.ErrorKind.TheVariants as kinds
use Rattle.speedy_base.specs.Error.{error_of, Errors}
use Rattle.speedy_base.specs.Device.{SourceState}
use Rattle.speedy_base.specs.Digits.{AreBytes}
use Rattle.speedy_base.specs.Mode.{Mode}
use Rattle.speedy_base.specs.FailedCalls.{IsOfFailedCall}
use Rattle.speedy_layout.specs.Codecs.{Codec}
use Rattle.speedy_layout.specs.Format.{Format, Each}
use Rattle.speedy_layout.specs.Lists.{vector}
use Rattle.speedy_read.specs.Buffers.{bytes_state}
use Rattle.speedy_read.specs.Reading.{ReaderState, IsTold, Excused, Reads}
use Rattle.speedy_read.specs.WaysOfReading.{AnswersBuffer, AnswersCopied, WantsMemory, AnswersStreamIn}
use Rattle.speedy_read.specs.StreamModel.{most_held}

-- What a function that reads from a buffer answers where a canonical encoding of n bytes stands at the front:
-- the value that was written, and the number of those bytes. It is refused only for want of memory.
pub record AnswersWritten {E A V : Type 0} (gives : Error → E → Type 0) (seen : A → V) (L : Format V) (v : V) (size : ℕ)
    (result : Result A E) (count : ℕ) : Type 0 where
  pub same : IfOk result (λ x. seen x ≡ v)
  pub counted : OnOk result (count ≡ size)
  pub refused : IfErr result (gives (error_of kinds.OutOfMemory))
  -- a type that asks for no memory is not refused
  pub asks_memory : OnErr result (IsTrue L.asks.memory)

-- What a read answers where a canonical encoding and then the rest remain: the value that was written, and the rest
-- remains. Where all is told, it is refused only for want of memory or by a failed call of the device.
pub record ReadsWritten {E A V : Type 0} (gives : Error → E → Type 0) (seen : A → V) (L : Format V)
    (v : V) (rest : List ℕ) (result : Result A E) (old new : ReaderState) : Type 0 where
  pub same : IfOk result (λ x. seen x ≡ v)
  pub rest_is : OnOk result (new.remaining ≡ rest)
  pub refused : IsTold L old → IfErr result (λ e. Excused gives L.asks.memory e old new)

-- What a read answers that is the first one from a reader of a buffer: as above, with these bytes left. It is refused
-- only for want of memory, since a slice has bytes and fewer than `usize::MAX` of them.
pub record ReadsWrittenFirst {E A V : Type 0} (gives : Error → E → Type 0) (seen : A → V) (v : V) (rest buffer : List ℕ)
    (result : Result A E) (left : List ℕ) : Type 0 where
  pub same : IfOk result (λ x. seen x ≡ v)
  pub rest_is : OnOk result (left ≡ rest)
  pub refused : ((i : ℕ) → Fits w8 (get_or buffer i 0)) → length buffer < 2 ^ 64 - 1
      → IfErr result (gives (error_of kinds.OutOfMemory))

-- What a function that reads from a source answers where a canonical encoding and then the rest remain: the value that
-- was written, and the rest is still there, but for what was read ahead of it. It is refused only for want of memory
-- or as what a failed call answered, where the bytes are told and fewer than `usize::MAX`, and the type borrows
-- nothing.
pub record StreamsWritten {E A V : Type 0} (gives : Error → E → Type 0) (seen : A → V) (L : Format V)
    (v : V) (buffers : Bool) (rest : List ℕ) (result : Result A E) (old new : SourceState) : Type 0 where
  pub same : IfOk result (λ x. seen x ≡ v)
  pub rest_is : OnOk result (buffers ≡ false → new.remaining ≡ rest)
  pub ahead : OnOk result ((ahead : List ℕ) × (length ahead ≤ most_held buffers) × (rest ≡ ahead ++ new.remaining))
  pub no_fault : OnOk result (new.faults ≡ old.faults)
  pub refused : AreBytes old.remaining → length old.remaining < 2 ^ 64 - 1 → L.asks.lending ≡ false
      → IfErr result
      (λ e. WantsMemory gives L.asks.memory buffers e old new ⊎ IsOfFailedCall gives e old.faults new.faults)

module _ {E A : Type 0} (errors : Errors E) where
  -- the law of the functions that read from a buffer
  pub record WrittenIsAnswered {V : Type 0} (seen : A → V) (codec : Codec V) : Type 0 where
    -- what was written to the front of a buffer
    pub prefix : {mode : Mode} {v : V} {bytes : List ℕ} (rest : List ℕ) {buffer : List ℕ}
        {result : Result A E} {count : ℕ}
        → (codec.format mode).writes v bytes → buffer ≡ bytes ++ rest
        → AnswersBuffer errors seen codec mode result count buffer
        → AnswersWritten errors.from_gives seen (codec.format mode) v (length bytes) result count
    -- what was written is the whole buffer
    pub whole : {mode : Mode} {v : V} {bytes buffer : List ℕ} {result : Result A E} {count : ℕ}
        → (codec.format mode).writes v bytes
        → buffer ≡ bytes → AnswersBuffer errors seen codec mode result count buffer
        → AnswersWritten errors.from_gives seen (codec.format mode) v (length bytes) result count

  -- the law of reads
  pub record WrittenIsRead {V : Type 0} (seen : A → V) (format : Mode → Format V) : Type 0 where
    -- from any reader that tells its bytes
    pub told : {mode : Mode} {v : V} {bytes rest : List ℕ} {result : Result A E} {old new : ReaderState}
        → (format mode).writes v bytes → IsTrue old.fixed.tells → old.mode ≡ mode
        → old.remaining ≡ bytes ++ rest
        → Reads errors.from_gives errors.eof seen (format old.mode) result old new
        → ReadsWritten errors.from_gives seen (format mode) v rest result old new
    -- from a reader of bytes in memory that has just been made
    pub made : {mode at after : Mode} {v : V} {bytes rest buffer left : List ℕ} {result : Result A E}
        {old : ReaderState}
        → (format mode).writes v bytes → buffer ≡ bytes ++ rest → old ≡ bytes_state buffer at → at ≡ mode
        → Reads errors.from_gives errors.eof seen (format old.mode) result old (bytes_state left after)
        → ReadsWrittenFirst errors.from_gives seen v rest buffer result left

  -- the law of the functions that read from a source that tells its bytes
  abbrev pub WrittenIsStreamed : {V : Type 0} → (A → V) → Codec V → Type 0
  WrittenIsStreamed {V = V} seen codec =
      (mode : Mode) (v : V) (bytes rest : List ℕ) (buffers : Bool) (result : Result A E) (old new : SourceState)
      → (codec.format mode).writes v bytes → IsTrue old.tells → old.remaining ≡ bytes ++ rest
      → AnswersStreamIn errors.from_gives errors.eof seen (codec.format mode) buffers result old new
      → StreamsWritten errors.from_gives seen (codec.format mode) v buffers rest result old new

  -- the law of reads of items by their number
  pub record WrittenItemsAreRead {V : Type 0} (seen : A → List V) (format : Mode → Format V) : Type 0 where
    -- from any reader that tells its bytes
    pub told : {mode : Mode} {vs : List V} (bytes : List ℕ) {rest : List ℕ} {n : ℕ} {result : Result A E}
        {old new : ReaderState}
        → Each (format mode).writes vs bytes → n ≡ length vs → IsTrue old.fixed.tells → old.mode ≡ mode
        → old.remaining ≡ bytes ++ rest
        → Reads errors.from_gives errors.eof seen (vector n (format old.mode)) result old new
        → ReadsWritten errors.from_gives seen (vector n (format mode)) vs rest result old new
    -- from a reader of bytes in memory that has just been made
    pub made : {mode at after : Mode} {vs : List V} (bytes : List ℕ) {rest buffer left : List ℕ} {n : ℕ}
        {result : Result A E} {old : ReaderState}
        → Each (format mode).writes vs bytes → n ≡ length vs → buffer ≡ bytes ++ rest → old ≡ bytes_state buffer at
        → at ≡ mode
        → Reads errors.from_gives errors.eof seen (vector n (format old.mode)) result old (bytes_state left after)
        → ReadsWrittenFirst errors.from_gives seen vs rest buffer result left

  -- The law of the functions that copy from a buffer: where the type borrows nothing, they answer as those do that lend
  -- it.
  abbrev pub CopiedIsAnswered : {V : Type 0} → (A → V) → Codec V → Type 0
  CopiedIsAnswered seen codec = (mode : Mode) → (codec.format mode).asks.lending ≡ false
      → (result : Result A E) (count : ℕ) (bytes : List ℕ)
      → AnswersCopied errors seen codec mode result count bytes
      → AnswersBuffer errors seen codec mode result count bytes
