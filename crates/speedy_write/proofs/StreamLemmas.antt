-- What the ways of writing to a sink do follows from what a write into a collector does.
use Rattle.std.specs.Prelude.{◌≡◌, ℕ, ◌⊎◌, None, Result, Ok, Err, refl}
use Rattle.std.specs.Borrow.{GName}
use Rattle.std.proofs.Common.{ap, subst, inl, inr}
use Rattle.speedy_base.specs.declared.error.Error.{Error}
use Rattle.speedy_base.specs.Device.{SinkState}
use Rattle.speedy_base.specs.DeviceLemmas.{grown}
use Rattle.speedy_base.specs.Mode.{Mode}
use Rattle.speedy_base.specs.FailedCalls.{IsOfFailedCall}
use Rattle.speedy_layout.specs.Format.{Format}
use Rattle.speedy_layout.specs.Laws.{Laws}
use Rattle.speedy_write.specs.Writing.{WriterKind, WriterState, Unwritten, Writes}
use Rattle.speedy_write.specs.Collectors.{sink_state, SinkTakes}
use Rattle.speedy_write.specs.WaysOfWriting.{RefusesUndecodable, WritesToStreamIn, WritesAndFlushesIn, WritesToFileIn}

module _ {E : Type 0} {gives : Error → E → Type 0} {V : Type 0} {v : V} where
  -- what is written to a sink of a file and flushed
  pub file_written : {L : Format V} (old new : SinkState) (result : Result (Unit {0}) E)
      → WritesAndFlushesIn gives L v result old new → WritesToFileIn gives L v result
  file_written old new (Ok _) w = record { written = (w.0.written.0, w.0.written.1); refused = tt }
  file_written old new (Err e) w =
      record { written = tt; refused = elim w.0.refused [ inl h ↦ inl (h.0, h.2) | inr h ↦ inr h.1 ] }

  -- where space has no bound, what is not written has no encoding
  no_encoding : {L : Format V} {e : E} {old new : WriterState} → old.space ≡ None → Unwritten gives L v e old new
      → RefusesUndecodable gives L v e
  no_encoding none h = record {
    no_encoding = h.no_encoding none;
    kind = elim h.kind [ inl k ↦ absurd (k.0 none) | inr k ↦ k ];
  }

  module _ {F : Mode → Format V} {mode : Mode} {least : ℕ}
      (laws : Laws mode.strict least (F mode)) where
    to_stream : {other : Mode} {name other_name : GName} (s t : SinkState) (result : Result (Unit {0}) E)
        → Writes gives F v result (sink_state mode name s) (sink_state other other_name t) (λ b. SinkTakes s b t)
        → WritesToStreamIn gives (F mode) v result s t
    to_stream s t (Ok _) w =
        let put = w.answer in
        record {
          kept = record { tells = ap (λ (kind : WriterKind). kind.tells) w.kept.fixed; faults = w.kept.faults };
          no_flush = w.kept.waits;
          no_fault = put.no_fault;
          written = (
            put.bytes,
            record {
              is_written = put.is_written;
              shortest = λ others k. laws.shortest v put.bytes others put.is_written k;
            },
            put.is_appended,
          );
          succeeds = λ _ _ _. refl;
          refused = tt;
          begun = tt;
          behind = tt;
        }
    to_stream s t (Err e) w =
        let why : IsOfFailedCall gives e s.faults t.faults
        ⊎ ((t.faults ≡ s.faults) × RefusesUndecodable gives (F mode) v e) = elim w.answer.because [
          | inl h ↦ inl (h.1 refl)
          | inr h ↦ inr (h.no_fault, no_encoding refl h)
        ] in
        record {
          kept = record { tells = ap (λ (kind : WriterKind). kind.tells) w.kept.fixed; faults = w.kept.faults };
          no_flush = w.kept.waits;
          no_fault = tt;
          written = tt;
          succeeds = λ bytes k clean. absurd (elim why [
            | inl h ↦ clean (grown h.0 s.faults t.faults h.1)
            | inr h ↦ h.1.no_encoding bytes k
          ]);
          refused = why;
          begun = w.answer.beginning;
          behind = w.answer.appends;
        }

    -- a write into a collector, whatever the states of its sink were called
    pub stream_written : {at other : Mode} {name other_name : GName} {old new : SinkState} (s t : SinkState)
        → at ≡ mode → s ≡ old → t ≡ new → (result : Result (Unit {0}) E)
        → Writes gives F v result (sink_state at name s) (sink_state other other_name t) (λ b. SinkTakes s b t)
        → WritesToStreamIn gives (F mode) v result old new
    stream_written {other = other} {name = name} {other_name = other_name} {old = old} s t same_mode starts
        ends result w =
        let x = to_stream s t result
        (subst (λ (f : Mode). Writes gives F v result (sink_state f name s) (sink_state other other_name t)
        (λ b. SinkTakes s b t)) same_mode w) in
        subst (λ (b : SinkState). WritesToStreamIn gives (F mode) v result old b) ends
        (subst (λ (a : SinkState). WritesToStreamIn gives (F mode) v result a t) starts x)
