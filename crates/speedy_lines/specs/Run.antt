-- What the program does with a whole input.
use Rattle.std.specs.Prelude.{◌≡◌, ◌==◌, if◌then◌else◌, ℕ, ◌-◌, ◌^◌, ◌≤◌, List, [], ◌∷◌, ◌++◌, ◌⊎◌, length, IsTrue}
use Rattle.std.specs.Prelude.{Result, OnOk, OnErr, IfErr}
use Rattle.speedy.specs.declared.error.Error.{Error}
use Rattle.speedy.specs.declared.error.ErrorKind.TheVariants as kinds
use Rattle.speedy.specs.Error.{error_of}
use Rattle.speedy.specs.Device.{SourceState, SourceKept, SinkState, SinkKept}
use Rattle.speedy.specs.FailedCalls.{IsOfFailedCall}
use Rattle.speedy.specs.Format.{Each}
use Rattle.speedy_lines.specs.Answer.{AnswersLine}

-- the byte that ends a line
abbrev pub line_feed : ℕ
line_feed = 10

-- a byte that stands before lines begins the first of them, and is a line where there is none
abbrev pub with_first : ℕ → List (List ℕ) → List (List ℕ)
with_first b [] = (b ∷ []) ∷ []
with_first b (line ∷ lines) = (b ∷ line) ∷ lines

-- the lines of some bytes, each without its line feed; bytes after the last line feed are a line if there are any
abbrev pub lines_of : List ℕ → List (List ℕ)
lines_of [] = []
lines_of (b ∷ bytes) = if b == line_feed then [] ∷ lines_of bytes else with_first b (lines_of bytes)

-- the sink took one answer for each of the lines, in order
pub record AnsweredAll (lines : List (List ℕ)) (old new : SinkState) : Type 0 where
  pub answers : List ℕ
  pub answers_are : Each AnswersLine lines answers
  pub taken : IsTrue old.tells → new.taken ≡ old.taken ++ answers

-- the sink took one answer for each of the lines but those that are left, in order
pub record Answered (lines left : List (List ℕ)) (old new : SinkState) : Type 0 where
  pub done : List (List ℕ)
  pub lines_are : lines ≡ done ++ left
  pub answered : AnsweredAll done old new

-- the sink took a prefix of the answers to the first of the lines, one for each of these and in order
pub record AnsweredPartly (lines : List (List ℕ)) (old new : SinkState) : Type 0 where
  pub done : List (List ℕ)
  pub left : List (List ℕ)
  pub prefix : List ℕ
  pub rest : List ℕ
  pub lines_are : lines ≡ done ++ left
  pub answers_are : Each AnswersLine done (prefix ++ rest)
  pub taken : IsTrue old.tells → new.taken ≡ old.taken ++ prefix

-- an error of the crate becomes no other one
abbrev pub itself : Error → Error → Type 0
itself error e = e ≡ error

-- one call of the sink failed, and the error is what it answered; or none did, and there was no memory
abbrev pub IsSinkFailure : Error → SinkState → SinkState → Type 0
IsSinkFailure e old new =
    IsOfFailedCall itself e old.faults new.faults ⊎ ((new.faults ≡ old.faults) × (e ≡ error_of kinds.OutOfMemory))

-- all but the lines that are left were answered, or some were and why not more
pub record Answering {T : Type 0} (result : Result T Error) (lines left : List (List ℕ))
    (old new : SinkState) : Type 0 where
  pub kept : SinkKept old new
  pub no_fault : OnOk result (new.faults ≡ old.faults)
  pub all : OnOk result (Answered lines left old new)
  pub partly : OnErr result (AnsweredPartly lines old new)
  pub why : IfErr result (λ e. IsSinkFailure e old new)

-- the input was longer than the program counts
abbrev pub IsTooLong : Error → SourceState → Type 0
IsTooLong e input = (e ≡ error_of kinds.OutOfRangeLength) × (IsTrue input.tells → 2 ^ 64 - 1 ≤ length input.remaining)

-- Why a whole input is not answered: one call of the input or of the output failed, and the error is what it answered;
-- or no call failed, and there was no memory, or the input is too long.
abbrev pub IsRunFailure : Error → SourceState → SourceState → SinkState → SinkState → Type 0
IsRunFailure e input input_after output output_after =
    (IsOfFailedCall itself e input.faults input_after.faults × (output_after.faults ≡ output.faults))
    ⊎ ((IsOfFailedCall itself e output.faults output_after.faults × (input_after.faults ≡ input.faults))
    ⊎ ((input_after.faults ≡ input.faults) × (output_after.faults ≡ output.faults)
    × ((e ≡ error_of kinds.OutOfMemory) ⊎ IsTooLong e input)))

-- a whole input, from the states of the devices before to those after
pub record Runs {T : Type 0} (result : Result T Error) (input input_after : SourceState)
    (output output_after : SinkState) : Type 0 where
  pub kept : SourceKept input input_after × SinkKept output output_after
  -- no failed call is passed over
  pub no_fault : OnOk result ((input_after.faults ≡ input.faults) × (output_after.faults ≡ output.faults))
  -- and no answer waits in the output
  pub settled : OnOk result (IsTrue output_after.settled)
  -- each line of the input was answered
  pub all : OnOk result (IsTrue input.tells → AnsweredAll (lines_of input.remaining) output output_after)
  -- what was written before a failure is right as far as it goes
  pub partly : OnErr result (IsTrue input.tells → AnsweredPartly (lines_of input.remaining) output output_after)
  -- no failure without a cause
  pub why : IfErr result (λ e. IsRunFailure e input input_after output output_after)
