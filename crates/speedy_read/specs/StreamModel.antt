-- What the reader of a source shows.
use Rattle.std.specs.Prelude.{ℕ, ◌-◌, [], ◌∷◌, ◌++◌, length, Bool, true, false, ◌&&◌, nat_eq, nat_le}
use Rattle.std.specs.Borrow.{GName}
use Rattle.speedy_base.specs.Device.{SourceState}
use Rattle.speedy_base.specs.Mode.{Mode}
use Rattle.speedy_base.specs.Ring.{Ring}
use Rattle.speedy_read.specs.Reading.{ReaderKind, ReaderState}
use Rattle.speedy_read.specs.declared.stream_reader.StreamReader.{StreamReader}

-- the context that a reader holds, the source that it borrows, the bytes that it keeps of it, and whether it reads
-- ahead
pub record StreamModel (S C : Type 0) : Type 0 where
  pub context : C
  pub source_name : GName
  pub source : S
  pub ring : Ring
  pub is_buffering : Bool

abbrev pub stream_model : {S C : Type 0} → StreamReader S C → StreamModel S C
stream_model r = record {
  context = r.context;
  source_name = r.source.ghost_name;
  source = r.source.now;
  ring = r.ring;
  is_buffering = r.is_buffering;
}

-- how many bytes a new reader has room for, and how many it may hold after a read: 8,191, or none
abbrev pub first_capacity : Bool → ℕ
first_capacity true = 8192
first_capacity false = 0

abbrev pub most_held : Bool → ℕ
most_held is_buffering = first_capacity is_buffering - 1

-- the ring has not grown, and holds no more than a read may leave
abbrev pub is_tidy : Ring → Bool → Bool
is_tidy ring is_buffering =
    nat_eq ring.capacity (first_capacity is_buffering) && nat_le (length ring.bytes) (most_held is_buffering)

-- a reader of a source, which it holds under this name: it lends nothing, its reads ask for no memory, but
-- its peeks may, and it may end as its source does
abbrev pub stream_kind : GName → Bool → Bool → ReaderKind
stream_kind name tells is_buffering = record {
  tells = tells;
  lends = false;
  buffers = is_buffering;
  asks_memory = false;
  peeks_ask_memory = true;
  ends_by_device = true;
  tells_faults = true;
  targets = name ∷ [];
}

-- its bytes come from the ring first
abbrev pub ring_state : GName → SourceState → Ring → Bool → Mode → ReaderState
ring_state name source ring is_buffering mode = record {
  fixed = stream_kind name source.tells is_buffering;
  remaining = ring.bytes ++ source.remaining;
  source = source;
  tidy = is_tidy ring is_buffering;
  mode = mode;
  faults = source.faults;
}

abbrev pub stream_state : {S C : Type 0} → (S → SourceState) → (C → Mode) → StreamReader S C → ReaderState
stream_state source mode r =
    ring_state r.source.ghost_name (source r.source.now) r.ring r.is_buffering (mode r.context)
