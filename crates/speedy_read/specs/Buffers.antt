-- Readers of bytes in memory.
use Rattle.std.specs.Prelude.{ℕ, List, [], ◌∷◌, Bool, true, false}
use Rattle.std.specs.Borrow.{GName}
use Rattle.speedy_base.specs.Device.{SourceState}
use Rattle.speedy_base.specs.MemoryDevices.{no_faults}
use Rattle.speedy_base.specs.Mode.{Mode}
use Rattle.speedy_read.specs.Reading.{ReaderKind, ReaderState}

-- a reader of bytes that lie in memory, which lends parts of them or does not: it asks for no memory, and
-- ends as `UnexpectedEndOfInput` alone
abbrev pub memory_kind : Bool → List GName → ReaderKind
memory_kind lends targets = record {
  tells = true;
  lends = lends;
  buffers = false;
  asks_memory = false;
  peeks_ask_memory = false;
  ends_by_device = false;
  tells_faults = true;
  targets = targets;
}

-- what stands for the source of a reader that has none
abbrev pub no_source : SourceState
no_source = record { tells = true; remaining = []; faults = no_faults }

-- it never fails
abbrev pub memory_state : Bool → List GName → List ℕ → Mode → ReaderState
memory_state lends targets bytes mode = record {
  fixed = memory_kind lends targets;
  remaining = bytes;
  source = no_source;
  tidy = true;
  mode = mode;
  faults = no_faults;
}

-- one that lends, or from which nothing is borrowed
abbrev pub bytes_state : List ℕ → Mode → ReaderState
bytes_state = memory_state true []

-- one that lends nothing, and holds its context by a `&mut`
abbrev pub copied_state : GName → List ℕ → Mode → ReaderState
copied_state context = memory_state false (context ∷ [])

-- a reader that is held by a `&mut`
abbrev pub held_kind : GName → ReaderKind → ReaderKind
held_kind name kind = record kind { targets = name ∷ kind.targets }

abbrev pub held_state : GName → ReaderState → ReaderState
held_state name s = record s { fixed = held_kind name s.fixed }
