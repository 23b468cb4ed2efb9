-- What contracts see of the devices that this crate has.
use Rattle.std.specs.Prelude.{ℕ, Bool, true, false, List, [], None}
use Rattle.speedy_base.specs.declared.device.Faults.{Faults}
use Rattle.speedy_base.specs.declared.device.VecSink.{VecSink}
use Rattle.speedy_base.specs.declared.device.Counted.{Counted}
use Rattle.speedy_base.specs.Device.{SourceState, SinkState}

-- no call has failed
abbrev pub no_faults : Faults
no_faults = record { count = 0; last = None }

-- a list of bytes that is read to its end
abbrev pub bytes_source : List ℕ → SourceState
bytes_source bytes = record { tells = true; remaining = bytes; faults = no_faults }

-- the bytes that a `VecSink` took
abbrev pub vec_sink_bytes : VecSink → List ℕ
vec_sink_bytes sink = sink.bytes.items

-- its failed calls
abbrev pub vec_sink_faults : VecSink → Faults
vec_sink_faults sink = sink.faults

-- the same, as a sink that tells, and in which nothing waits
abbrev pub vec_sink_state : VecSink → SinkState
vec_sink_state sink = record { tells = true; taken = sink.bytes.items; faults = sink.faults; settled = true }

-- what a `Counted` counts the calls of
abbrev pub counted_inner : {S : Type 0} → Counted S → S
counted_inner counted = counted.inner

-- those of these calls that failed
abbrev pub counted_faults : {S : Type 0} → Counted S → Faults
counted_faults counted = counted.faults

-- nothing was pushed since a flush that succeeded
abbrev pub counted_settled : {S : Type 0} → Counted S → Bool
counted_settled counted = counted.settled

-- the same, as a source and as a sink that tell no byte
abbrev pub counted_source : {S : Type 0} → Counted S → SourceState
counted_source counted = record { tells = false; remaining = []; faults = counted.faults }

abbrev pub counted_sink : {S : Type 0} → Counted S → SinkState
counted_sink counted = record { tells = false; taken = []; faults = counted.faults; settled = counted.settled }
