-- Bytes that are gathered before they are pushed.
use Rattle.std.specs.Prelude.{◌≡◌, ℕ, ◌+◌, List, [], ◌++◌, take, drop, Result, Ok, Err, IsErrAnd, refl}
use Rattle.std.specs.Borrow.{GName}
use Rattle.std.proofs.Common.{sym, ◌∙◌, ap, subst, inl}
use Rattle.std.proofs.lemmas.List.{append_assoc, append-nil, drop-drop, take_rest}
use Rattle.std.specs.declared.io.Error.{Error as StdIoError}
use Rattle.speedy_base.specs.declared.device.Faults.{Faults}
use Rattle.speedy_base.specs.declared.error.Error.{Error}
use Rattle.speedy_base.specs.Error.{passed_on}
use Rattle.speedy_base.specs.Device.{SinkState, Pushes}
use Rattle.speedy_base.specs.DeviceLemmas.{DeviceKept-after, grown}
use Rattle.speedy_base.specs.Mode.{Mode}
use Rattle.speedy_base.specs.FailedCalls.{OneFailed, IsErrorOf, IsOfFailedCall}
use Rattle.speedy_layout.specs.Format.{Format}
use Rattle.speedy_write.specs.CollectorLemmas.{sink_nothing, sink_additive}
use Rattle.speedy_write.specs.Collectors.{sink_state, SinkTakes}
use Rattle.speedy_write.specs.Buffering.{Buffers, PushesWaiting, buffers_additive}
use Rattle.speedy_write.specs.Pushing.{PushesAll}
use Rattle.speedy_write.specs.Sequences.{Kept-same, Kept-after}
use Rattle.speedy_write.specs.Writing.{Writes, WritesBytes, Begun, Kept}
use Rattle.speedy_write.proofs.PushLemmas.{PushedSoFar, more_pushed}

-- ---- what waits is pushed

-- some more of it
pub more_taken : {waited : List ℕ} (xs : List ℕ) (start end n : ℕ) {s t u : SinkState}
    → PushedSoFar waited (drop start (take end xs)) s t → Pushes (Ok n) t u (drop start (take end xs))
    → PushedSoFar waited (drop (start + n) (take end xs)) s u
more_taken {waited = waited} xs start end n {s = s} {t = t} {u = u} so_far p =
    let rest = drop start (take end xs) in
    subst (λ (r : List ℕ). PushedSoFar waited r s u) (take_rest rest n ∙ drop-drop n start (take end xs))
    (more_pushed so_far p)

module _ {E : Type 0} {gives : Error → E → Type 0} where
  -- all of it
  pub all_taken : {waited rest waits : List ℕ} {s t : SinkState} → PushedSoFar waited rest s t → rest ≡ [] → waits ≡ []
      → PushesWaiting gives (Ok tt) waited waits s t
  all_taken {waited = waited} {rest = rest} {waits = waits} so_far none left = record {
    kept = so_far.taken.kept;
    no_fault = so_far.no_fault;
    none_left = left;
    moved = record {
      taken = so_far.prefix;
      is_taken = so_far.taken;
      all_is = append-nil waited ∙ (so_far.bytes_are ∙ ap (λ (l : List ℕ). so_far.prefix ++ l) (none ∙ sym left));
    };
    fault = tt;
    no_flush = so_far.waits;
  }

  -- or a push failed
  pub not_taken : {waited rest bytes : List ℕ} {error : StdIoError} {e : E} {s t u : SinkState}
      → PushedSoFar waited rest s t → Pushes (Err error) t u bytes → IsErrorOf gives error e
      → PushesWaiting gives (Err e) waited rest s u
  not_taken {waited = waited} {rest = rest} {error = error} {t = t} {u = u} so_far p is = record {
    kept = DeviceKept-after so_far.taken.kept p.kept;
    no_fault = tt;
    none_left = tt;
    moved = record {
      taken = so_far.prefix ++ [];
      is_taken = sink_additive so_far.taken (record {
        kept = p.kept;
        taken_is = λ told. p.unmoved told ∙ sym (append-nil t.taken);
      });
      all_is = append-nil waited ∙ (so_far.bytes_are ∙ ap (λ (l : List ℕ). l ++ rest) (sym (append-nil so_far.prefix)));
    };
    fault = (error, subst (λ (f : Faults). OneFailed error f u.faults) so_far.no_fault p.fault, is);
    no_flush = λ settled. so_far.waits (p.waits settled);
  }

  -- ---- what is written

  kept_by_push : {mode : Mode} {name : GName} {result : Result (Unit {0}) E} {v w : List ℕ} {s t : SinkState}
      → PushesWaiting gives result v w s t → Kept (sink_state mode name s) (sink_state mode name t)
  kept_by_push {mode = mode} {name = name} {s = s} p = record {
    fixed = ap (λ b. (sink_state mode name (record s { tells = b })).fixed) p.kept.tells;
    mode = refl;
    faults = p.kept.faults;
    waits = p.no_flush;
  }

  kept_by_push_of : {mode : Mode} {name : GName} {result : Result (Unit {0}) E} {bytes : List ℕ}
      {s t : SinkState} → PushesAll gives bytes result s t
      → Kept (sink_state mode name s) (sink_state mode name t)
  kept_by_push_of {mode = mode} {name = name} {s = s} p = record {
    fixed = ap (λ b. (sink_state mode name (record s { tells = b })).fixed) p.kept.tells;
    mode = refl;
    faults = p.kept.faults;
    waits = p.waits;
  }

  -- what is pushed behind all that waited
  behind : {v w prefix : List ℕ} {s t u : SinkState} → PushesWaiting gives (Ok tt) v w s t → SinkTakes t prefix u
      → Buffers s v prefix u w
  behind {w = w} {prefix = prefix} p taken = buffers_additive p.moved (record {
    taken = prefix;
    is_taken = taken;
    all_is = ap (λ (l : List ℕ). l ++ prefix) p.none_left
        ∙ (sym (append-nil prefix) ∙ ap (λ (l : List ℕ). prefix ++ l) (sym p.none_left));
  })

  module _ {mode : Mode} {name : GName} {v w : List ℕ} {s : SinkState} (slice : List ℕ) where
    -- it waits
    pub waits_too : w ≡ v ++ slice
        → WritesBytes gives slice (Ok tt) (sink_state mode name s) (sink_state mode name s)
        (λ b. Buffers s v b s w)
    waits_too is = record {
      kept = Kept-same _;
      answer = record {
        bytes = slice;
        is_written = refl;
        is_appended = record { taken = []; is_taken = sink_nothing s; all_is = sym is };
        fits = tt;
        space = refl;
        no_fault = refl;
      };
    }

    -- where what waits cannot be pushed, nothing of it is written
    pub push_refused : {t : SinkState} {e : E} {result : Result (Unit {0}) E} → IsErrAnd result (λ x. x ≡ e)
        → PushesWaiting gives (Err e) v w s t
        → WritesBytes gives slice result (sink_state mode name s) (sink_state mode name t)
        (λ b. Buffers s v b t w)
    push_refused {t = t} {e = e} {result = result} passed p =
        subst (λ (r : Result (Unit {0}) E). WritesBytes gives slice r (sink_state mode name s)
        (sink_state mode name t) (λ b. Buffers s v b t w)) (passed_on result e passed) (record {
          kept = kept_by_push p;
          answer = record {
            beginning = λ b is. record { prefix = []; rest = slice; is_written = refl; is_appended = p.moved };
            appends = ([], p.moved);
            because = inl (grown p.fault.0 s.faults t.faults p.fault.1, λ _. p.fault);
          };
        })

    -- it waits where what waited was pushed
    pub waits_alone : {t : SinkState} {x : List ℕ} → PushesWaiting gives (Ok tt) v w s t → x ≡ w ++ slice
        → WritesBytes gives slice (Ok tt) (sink_state mode name s) (sink_state mode name t)
        (λ b. Buffers s v b t x)
    waits_alone {t = t} p is = record {
      kept = kept_by_push p;
      answer = record {
        bytes = slice;
        is_written = refl;
        is_appended = buffers_additive p.moved (record { taken = []; is_taken = sink_nothing t; all_is = sym is });
        fits = tt;
        space = refl;
        no_fault = p.no_fault;
      };
    }

    -- or it is pushed itself
    pub pushed_too : {t u : SinkState} (result : Result (Unit {0}) E) → PushesWaiting gives (Ok tt) v w s t
        → PushesAll gives slice result t u
        → WritesBytes gives slice result (sink_state mode name s) (sink_state mode name u)
        (λ b. Buffers s v b u w)
    pushed_too (Ok _) p q = record {
      kept = Kept-after (kept_by_push p) (kept_by_push_of q);
      answer = record {
        bytes = slice;
        is_written = refl;
        is_appended = behind p q.all;
        fits = tt;
        space = refl;
        no_fault = q.no_fault ∙ p.no_fault;
      };
    }
    pushed_too {u = u} (Err e) p q =
        let fault = subst (λ (f : Faults). IsOfFailedCall gives e f u.faults) p.no_fault q.fault in
        record {
          kept = Kept-after (kept_by_push p) (kept_by_push_of q);
          answer = record {
            beginning = λ b is. record {
              prefix = q.partly.0;
              rest = q.partly.1;
              is_written = sym q.partly.2;
              is_appended = behind p q.partly.3;
            };
            appends = (q.partly.0, behind p q.partly.3);
            because = inl (grown fault.0 s.faults u.faults fault.1, λ _. fault);
          };
        }

    -- it waits alone where what waited was pushed
    pub waits_in_front : {t : SinkState} {x : List ℕ} → PushesWaiting gives (Ok tt) v w s t → x ≡ slice
        → WritesBytes gives slice (Ok tt) (sink_state mode name s) (sink_state mode name t)
        (λ b. Buffers s v b t x)
    waits_in_front p is = waits_alone p (is ∙ sym (ap (λ (l : List ℕ). l ++ slice) p.none_left))

    -- or it is pushed itself, and nothing waits
    pub pushed_past : {t u : SinkState} {x : List ℕ} (result : Result (Unit {0}) E)
        → PushesWaiting gives (Ok tt) v w s t → PushesAll gives slice result t u → x ≡ []
        → WritesBytes gives slice result (sink_state mode name s) (sink_state mode name u)
        (λ b. Buffers s v b u x)
    pushed_past {u = u} result p q none =
        subst (λ (x : List ℕ). WritesBytes gives slice result (sink_state mode name s) (sink_state mode name u)
        (λ b. Buffers s v b u x)) (p.none_left ∙ sym none) (pushed_too result p q)

-- ---- a value is written and what waits is pushed: so the sink took it

-- what was taken of a beginning is one
taken_begun : {writes : List ℕ → Type 0} {s t : SinkState} {w : List ℕ} → Begun writes (λ b. Buffers s [] b t w)
    → Begun writes (λ b. SinkTakes s b t)
taken_begun {writes = writes} {w = w} h =
    let taken = h.is_appended.taken in
    record {
      prefix = taken;
      rest = w ++ h.rest;
      is_written = subst writes
          (ap (λ (l : List ℕ). l ++ h.rest) h.is_appended.all_is ∙ append_assoc taken w h.rest) h.is_written;
      is_appended = h.is_appended.is_taken;
    }

module _ {E : Type 0} {gives : Error → E → Type 0} {V : Type 0} {F : Mode → Format V} {v : V}
    {mode other : Mode} {name other_name : GName} {s t : SinkState} {w : List ℕ} where
  -- what was refused
  pub gathered_refused : {e : E} {result : Result (Unit {0}) E} → IsErrAnd result (λ y. y ≡ e)
      → Writes gives F v (Err e) (sink_state mode name s) (sink_state other other_name t) (λ b. Buffers s [] b t w)
      → Writes gives F v result (sink_state mode name s) (sink_state other other_name t) (λ b. SinkTakes s b t)
  gathered_refused {e = e} {result = result} passed h =
      subst (λ (r : Result (Unit {0}) E). Writes gives F v r (sink_state mode name s)
      (sink_state other other_name t) (λ b. SinkTakes s b t)) (passed_on result e passed)
      (record {
        kept = h.kept;
        answer = record {
          beginning = λ b is. taken_begun (h.answer.beginning b is);
          appends = let x = h.answer.appends.1 in (x.taken, x.is_taken);
          because = h.answer.because;
        };
      })

  pub gathered_pushed : {u : SinkState} {x : List ℕ} (result : Result (Unit {0}) E)
      → Writes gives F v (Ok tt) (sink_state mode name s) (sink_state other other_name t) (λ b. Buffers s [] b t w)
      → PushesWaiting gives result w x t u
      → Writes gives F v result (sink_state mode name s) (sink_state other other_name u) (λ b. SinkTakes s b u)
  gathered_pushed {u = u} (Ok _) h p =
      let put = h.answer in
      let all = buffers_additive put.is_appended p.moved in
      record {
        kept = Kept-after h.kept (kept_by_push p);
        answer = record {
          bytes = put.bytes;
          is_written = put.is_written;
          is_appended = subst (λ (l : List ℕ). SinkTakes s l u)
              (sym (sym (append-nil put.bytes)
              ∙ (all.all_is ∙ (ap (λ (l : List ℕ). all.taken ++ l) p.none_left ∙ append-nil all.taken)))) all.is_taken;
          fits = tt;
          space = refl;
          no_fault = p.no_fault ∙ put.no_fault;
        };
      }
  gathered_pushed {u = u} {x = x} (Err e) h p =
      let put = h.answer in
      let all = buffers_additive put.is_appended p.moved in
      let fault = subst (λ (f : Faults). IsOfFailedCall gives e f u.faults) put.no_fault p.fault in
      record {
        kept = Kept-after h.kept (kept_by_push p);
        answer = record {
          beginning = λ b is. record {
            prefix = all.taken;
            rest = x;
            is_written = subst ((F mode).writes v) (sym (append-nil put.bytes) ∙ all.all_is) put.is_written;
            is_appended = all.is_taken;
          };
          appends = (all.taken, all.is_taken);
          because = inl (grown fault.0 s.faults u.faults fault.1, λ _. fault);
        };
      }

-- what becomes of bytes that are pushed
pub ruleset pushes = (all_taken, not_taken, push_refused, waits_in_front)
