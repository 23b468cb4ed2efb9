-- What the collectors hold.
use Rattle.std.specs.Prelude.{◌≡◌, ℕ, ◌+◌, ◌-◌, ◌^◌, ◌<◌, ◌≤◌, ◌⊎◌, List, [], ◌∷◌, ◌++◌, length, take, drop, Some, None}
use Rattle.std.specs.Prelude.{true, false, IsTrue, Option, IfSome}
use Rattle.std.specs.Borrow.{GName}
use denote.Memory.{lone}
use denote.RattleType.{RattleType}
use prog.Memory.{size, capped}
use Rattle.speedy_base.specs.declared.error.ErrorKind.TheVariants as kinds
use Rattle.speedy_base.specs.Device.{SinkState, SinkKept}
use Rattle.speedy_base.specs.MemoryDevices.{no_faults}
use Rattle.speedy_base.specs.Mode.{Mode}
use Rattle.speedy_write.specs.Writing.{WriterState}

-- a collector over a buffer, with n bytes left
abbrev pub buffer_state : Mode → List GName → ℕ → WriterState
buffer_state mode targets left = record {
  fixed = record { tells = true; tells_faults = true; full = kinds.UnexpectedEndOfOutputBuffer; targets = targets };
  mode = mode;
  faults = no_faults;
  space = Some left;
  settled = true;
}

-- the collector of sizes, with this sum
abbrev pub size_state : Mode → List GName → ℕ → WriterState
size_state mode targets size = record {
  fixed = record { tells = false; tells_faults = true; full = kinds.OutOfRangeLength; targets = targets };
  mode = mode;
  faults = no_faults;
  space = Some (2 ^ 64 - 1 - size);
  settled = true;
}

-- a collector over a sink of this name, which has no bound
abbrev pub sink_state : Mode → GName → SinkState → WriterState
sink_state mode name sink = record {
  fixed = record { tells = sink.tells; tells_faults = true; full = kinds.OutOfRangeLength; targets = name ∷ [] };
  mode = mode;
  faults = sink.faults;
  space = None;
  settled = sink.settled;
}

-- these bytes were put into the buffer from the one position to the other
pub record BufferAppends (position : ℕ) (buffer bytes : List ℕ) (end : ℕ) (after : List ℕ) : Type 0 where
  pub end_is : end ≡ position + length bytes
  pub within : end ≤ length buffer
  pub after_is : after ≡ take position buffer ++ (bytes ++ drop end buffer)

-- bytes by which a value is so written stand at a buffer's front, up to an end
pub record IsAtFront {V : Type 0} (writes : V → List ℕ → Type 0) (v : V) (buffer : List ℕ) (end : ℕ) : Type 0 where
  pub within : end ≤ length buffer
  pub is_written : writes v (take end buffer)

-- a value does not fit in a room: it has no encoding, or each is longer
abbrev pub DoesNotFit : {V : Type 0} → (V → List ℕ → Type 0) → V → ℕ → Type 0
DoesNotFit writes v room = (bytes : List ℕ) → writes v bytes → room < length bytes

-- how many bytes a value of a type takes in memory, as `mem::size_of_val` tells
abbrev pub value_size : RattleType → ℕ
value_size R = capped (size (lone R.mir))

-- the next item, if there is one, does not fit in the room that is left, or that is shorter than the item is in memory
abbrev pub NextHasNoRoom : {A V : Type 0} → ℕ → (V → List ℕ → Type 0) → (A → V) → Option A → ℕ → Type 0
NextHasNoRoom size writes seen next room = IfSome next (λ x. (room < size) ⊎ DoesNotFit writes (seen x) room)

-- the sum grows by the number of bytes
abbrev pub SizeAppends : ℕ → List ℕ → ℕ → Type 0
SizeAppends size bytes after = after ≡ size + length bytes

-- the sink took these bytes, after those that it had taken, where it tells them
pub record SinkTakes (old : SinkState) (bytes : List ℕ) (new : SinkState) : Type 0 where
  pub kept : SinkKept old new
  pub taken_is : IsTrue old.tells → new.taken ≡ old.taken ++ bytes
