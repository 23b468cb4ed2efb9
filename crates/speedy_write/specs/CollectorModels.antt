-- What the collectors show.
use Rattle.std.specs.Prelude.{ℕ, ◌-◌, List, take, drop}
use Rattle.std.specs.Borrow.{GName}
use Rattle.speedy_write.specs.declared.collectors.BufferCollector.{BufferCollector}
use Rattle.speedy_write.specs.declared.collectors.SizeCalculatorCollector.{SizeCalculatorCollector}
use Rattle.speedy_write.specs.declared.collectors.VecCollector.{VecCollector}
use Rattle.speedy_write.specs.declared.collectors.WritingCollector.{WritingCollector}
use Rattle.speedy_write.specs.declared.counting.CountingCollector.{CountingCollector}
use Rattle.speedy_write.specs.declared.buffering.Waiting.{Waiting}
use Rattle.speedy_write.specs.declared.buffering.BufferingCollector.{BufferingCollector}

-- the context and the buffer that a collector borrows, and how many bytes it has written at the buffer's front
pub record BufferModel (C : Type 0) : Type 0 where
  pub context : C
  pub context_name : GName
  pub buffer : List ℕ
  pub buffer_name : GName
  pub position : ℕ

abbrev pub buffer_model : {C U : Type 0} → BufferCollector C U → BufferModel C
buffer_model w = record {
  context = w.context.now;
  context_name = w.context.ghost_name;
  buffer = w.buffer.now;
  buffer_name = w.buffer.ghost_name;
  position = w.position;
}

-- the context and the vector that a collector borrows, the vector's bytes, and how many more may be written
pub record VecModel (C : Type 0) : Type 0 where
  pub context : C
  pub context_name : GName
  pub bytes : List ℕ
  pub bytes_name : GName
  pub room : ℕ

abbrev pub vec_model : {C : Type 0} → VecCollector C → VecModel C
vec_model w = record {
  context = w.context.now;
  context_name = w.context.ghost_name;
  bytes = take w.position w.bytes.now.items;
  bytes_name = w.bytes.ghost_name;
  room = w.most - w.position;
}

-- the context that the collector of sizes borrows, and the sum
pub record SizeModel (C : Type 0) : Type 0 where
  pub context : C
  pub context_name : GName
  pub size : ℕ

abbrev pub size_model : {C : Type 0} → SizeCalculatorCollector C → SizeModel C
size_model w = record { context = w.context.now; context_name = w.context.ghost_name; size = w.size }

-- and of the one that stays at `usize::MAX`
abbrev pub counting_model : {C : Type 0} → CountingCollector C → SizeModel C
counting_model w = record { context = w.context.now; context_name = w.context.ghost_name; size = w.size }

-- the context that a collector holds, and the sink that it borrows
pub record WritingModel (S C : Type 0) : Type 0 where
  pub context : C
  pub sink : S
  pub sink_name : GName

abbrev pub writing_model : {S C : Type 0} → WritingCollector S C → WritingModel S C
writing_model w = record { context = w.context; sink = w.sink.now; sink_name = w.sink.ghost_name }

-- the bytes that wait
abbrev pub waiting : Waiting → List ℕ
waiting w = drop w.start (take w.end w.room.now)

-- the context that a collector that buffers holds, the sink that it borrows, and the bytes that wait for it
pub record BufferingModel (S C : Type 0) : Type 0 where
  pub context : C
  pub sink : S
  pub sink_name : GName
  pub waits : List ℕ

abbrev pub buffering_model : {S C : Type 0} → BufferingCollector S C → BufferingModel S C
buffering_model w = record {
  context = w.context;
  sink = w.sink.now;
  sink_name = w.sink.ghost_name;
  waits = waiting w.waiting;
}
