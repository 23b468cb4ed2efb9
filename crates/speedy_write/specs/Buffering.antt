-- What a writer into a sink does that buffers bytes before it pushes them.
use Rattle.std.specs.Prelude.{◌≡◌, ℕ, List, [], ◌++◌, Result, OnOk, IfErr, IsTrue}
use Rattle.std.proofs.Common.{sym, ◌∙◌, ap}
use Rattle.std.proofs.lemmas.List.{append_assoc, append-nil}
use Rattle.speedy_base.specs.declared.error.Error.{Error}
use Rattle.speedy_base.specs.Device.{SinkState, SinkKept}
use Rattle.speedy_base.specs.FailedCalls.{IsOfFailedCall}
use Rattle.speedy_write.specs.Collectors.{SinkTakes}
use Rattle.speedy_write.specs.CollectorLemmas.{sink_nothing, sink_additive}

-- the sink took a beginning of what waited before and of these bytes, and the rest of them waits
pub record Buffers (old : SinkState) (waited bytes : List ℕ) (new : SinkState) (waits : List ℕ) : Type 0 where
  pub taken : List ℕ
  pub is_taken : SinkTakes old taken new
  pub all_is : waited ++ bytes ≡ taken ++ waits

pub buffers_nothing : (s : SinkState) (waits : List ℕ) → Buffers s waits [] s waits
buffers_nothing s waits = record { taken = []; is_taken = sink_nothing s; all_is = append-nil waits }

pub buffers_additive : {a b c : SinkState} {v w x s t : List ℕ} → Buffers a v s b w → Buffers b w t c x
    → Buffers a v (s ++ t) c x
buffers_additive {v = v} {x = x} {s = s} {t = t} h k = record {
  taken = h.taken ++ k.taken;
  is_taken = sink_additive h.is_taken k.is_taken;
  all_is = sym (append_assoc v s t) ∙ (ap (λ (l : List ℕ). l ++ t) h.all_is ∙ (append_assoc h.taken _ t
      ∙ (ap (λ (l : List ℕ). h.taken ++ l) k.all_is ∙ sym (append_assoc h.taken k.taken x))));
}

-- bytes by which a value is so written wait behind others
pub record WaitsBehind {V : Type 0} (writes : V → List ℕ → Type 0) (v : V) (waited waits : List ℕ) : Type 0 where
  pub bytes : List ℕ
  pub all_is : waits ≡ waited ++ bytes
  pub is_written : writes v bytes

-- what waited was pushed, or a beginning of it and then a push failed
pub record PushesWaiting {E : Type 0} (gives : Error → E → Type 0) (result : Result (Unit {0}) E)
    (waited waits : List ℕ) (old new : SinkState) : Type 0 where
  pub kept : SinkKept old new
  -- what succeeds had no failed push, and leaves nothing waiting
  pub no_fault : OnOk result (new.faults ≡ old.faults)
  pub none_left : OnOk result (waits ≡ [])
  pub moved : Buffers old waited [] new waits
  -- one push failed, and its error is answered
  pub fault : IfErr result (λ e. IsOfFailedCall gives e old.faults new.faults)
  -- what the sink kept back goes on waiting there
  pub no_flush : IsTrue new.settled → IsTrue old.settled
