use Rattle.std.specs.Prelude.{Result, Ok, Err}
use Rattle.std.proofs.Common.{inl, inr}
use Rattle.speedy.specs.declared.error.Error.{Error}
use Rattle.speedy.specs.Device.{SinkState}
use Rattle.speedy.specs.Format.{Format}
use Rattle.speedy.specs.WaysOfWriting.{WritesAndFlushesIn, WritesToFileIn}
use Rattle.speedy_examples.proofs.files.append_record.Goals as goal

-- what a sink of a file answered is what the file answers
of_sink : {V : Type 0} (gives : Error → Error → Type 0) (L : Format V) (v : V) (result : Result (Unit {0}) Error)
    (old new : SinkState) → WritesAndFlushesIn gives L v result old new → WritesToFileIn gives L v result
of_sink gives L v (Ok _) old new h = record { written = (h.0.written.0, h.0.written.1); refused = tt }
of_sink gives L v (Err e) old new h =
    record { written = tt; refused = elim h.0.refused [ inl k ↦ inl (k.0, k.2) | inr k ↦ inr k.1 ] }

pub returns-in-Ok : goal.returns-in-Ok
returns-in-Ok g c = of_sink _ _ _ _ _ _ c.put_record.ensures
