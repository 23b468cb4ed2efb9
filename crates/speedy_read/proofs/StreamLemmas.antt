-- Reads from a source.
use Rattle.std.specs.Prelude.{◌≡◌, ℕ, ◌+◌, ◌-◌, ◌^◌, ◌<◌, ◌≤◌, List, [], ◌++◌, length, take, drop, Bool, true, false}
use Rattle.std.specs.Prelude.{IsTrue, ◌⊎◌, Result, Ok, Err, IfOk, IfErr, OnOk, is_err, IsErrAnd, refl}
use Rattle.std.specs.Borrow.{GName}
use Rattle.std.proofs.Common.{sym, ◌∙◌, ap, subst, arith, inl, inr}
use Rattle.std.proofs.lemmas.List.{append_assoc, append-nil, length-append, length-drop, length-take-le}
use Rattle.std.proofs.lemmas.List.{take-append-drop}
use Rattle.std.proofs.lemmas.Bool.{true≢false, and_from, and_parts, eqb-true, eq-eqb, leb-true, le-leb}
use Rattle.speedy_base.specs.declared.error.ErrorKind.{ErrorKind}
use Rattle.speedy_base.specs.declared.error.ErrorKind.TheVariants as kinds
use Rattle.speedy_base.specs.declared.error.Error.{Error}
use Rattle.speedy_base.specs.Error.{error_of, is_eof_error, IsNamed}
use Rattle.speedy_base.specs.ErrorKind.{EndsInput, is_eof_kind}
use Rattle.std.specs.declared.io.Error.{Error as StdIoError}
use Rattle.speedy_base.specs.Device.{SourceState, GivesLent}
use Rattle.speedy_base.specs.DeviceLemmas.{failed_call}
use Rattle.speedy_base.specs.FailedCalls.{IsErrorOf, IsOfFailedCall}
use Rattle.speedy_base.specs.Digits.{AreBytes}
use Rattle.speedy_base.specs.Mode.{Mode}
use Rattle.speedy_base.specs.Ring.{Ring}
use Rattle.speedy_layout.specs.Format.{Format}
use Rattle.speedy_layout.specs.Texts.{raw_bytes}
use Rattle.speedy_read.specs.Reading.{ReaderKind, ReaderState, Kept, KeptByPeek, IsEnd, Undecodable, Refused, Reads}
use Rattle.speedy_read.specs.Reading.{Peeks}
use Rattle.speedy_read.specs.ReadingLemmas.{tells_still, KeptByPeek-after, ends_early, Peeks-passed}
use Rattle.speedy_read.specs.declared.stream_reader.StreamReader.{StreamReader}
use Rattle.speedy_read.specs.StreamModel.{StreamModel, stream_model, first_capacity, most_held, is_tidy, stream_kind}
use Rattle.speedy_read.specs.StreamModel.{ring_state, stream_state}
use Rattle.speedy_read.specs.Streams.{FillsList, FillsRing, FillsUpTo}
use Rattle.speedy_read.specs.WaysOfReading.{WantsMemory, TookPrefix, RefusesStream, AnswersStreamIn}

-- ---- tidiness

tidy_parts : (ring : Ring) (b : Bool) → IsTrue (is_tidy ring b)
    → (ring.capacity ≡ first_capacity b) × (length ring.bytes ≤ most_held b)
tidy_parts ring b t =
    let parts = and_parts _ _ t in
    (eqb-true ring.capacity (first_capacity b) parts.0, leb-true (length ring.bytes) (most_held b) parts.1)

tidy_whole : (ring : Ring) (b : Bool) → ring.capacity ≡ first_capacity b → length ring.bytes ≤ most_held b
    → IsTrue (is_tidy ring b)
tidy_whole ring b c l =
    and_from _ _ (eq-eqb ring.capacity (first_capacity b) c) (le-leb (length ring.bytes) (most_held b) l)

-- ---- ends

-- a kind with which input ends says so
ends_eof : (by_device : Bool) (kind : ErrorKind) → EndsInput by_device kind → is_eof_kind kind ≡ true
ends_eof by_device kinds.UnexpectedEndOfInput h = refl
ends_eof by_device (kinds.IoError e) h = h.1
ends_eof by_device _ h = absurd h

-- the end of a device's bytes
pub device_ended : {E : Type 0} (gives : Error → E → Type 0) (eof : E → Bool) (e : E)
    → ((r : Error) (x : E) → gives r x → eof x ≡ is_eof_error r) → IsNamed gives (EndsInput true) e
    → IsEnd gives eof true e
device_ended gives eof e keeps n = (n, keeps (error_of n.0) e n.2 ∙ ends_eof true n.0 n.1)

-- fewer bytes remain
stream_ended : {E : Type 0} {gives : Error → E → Type 0} {eof : E → Bool} {n : ℕ} {e : E} {old new : ReaderState}
    → new.faults ≡ old.faults → IsEnd gives eof old.fixed.ends_by_device e
    → (IsTrue old.fixed.tells → length old.remaining < n) → Refused gives eof (raw_bytes n) e old new
unfolding raw_bytes
stream_ended {n = n} clean ended fewer =
    ends_early clean n (λ v s h. let k = h.1 in omega arith) (λ _ bad. elim bad [ inl h ↦ h | inr h ↦ h ]) ended
    (λ told _. fewer told)

-- ---- what is read after a peek

kept_after_peek : {old mid new : ReaderState} → KeptByPeek old mid → (IsTrue old.tidy → IsTrue new.tidy) → Kept mid new
    → Kept old new
kept_after_peek h tidy k = record {
  fixed = k.fixed ∙ h.fixed;
  mode = k.mode ∙ h.mode;
  tidy = tidy;
  faults = let x = h.faults in let y = k.faults in omega arith;
  tail = λ told.
      let second = k.tail (tells_still h.fixed told) in
      (second.0, sym (h.remaining told) ∙ second.1);
}

module _ {E : Type 0} {gives : Error → E → Type 0} {eof : E → Bool} {A V : Type 0} {seen : A → V} {x : A}
    {L : Format V} where
  read_after_peek : {old mid new : ReaderState} → KeptByPeek old mid → mid.faults ≡ old.faults
      → (IsTrue old.tidy → IsTrue new.tidy) → (r : Reads gives eof seen L (Ok x) mid new) → (r.answer.prefix ≡ [] → ⊥)
      → Reads gives eof seen L (Ok x) old new
  read_after_peek h clean tidy r some = record {
    kept = kept_after_peek h tidy r.kept;
    answer = record {
      prefix = r.answer.prefix;
      prefix_is = r.answer.prefix_is;
      taken = λ told. sym (h.remaining told) ∙ r.answer.taken (tells_still h.fixed told);
      no_fault = r.answer.no_fault ∙ clean;
      untouched = λ none. absurd (some none);
    };
  }

-- ---- the ring alone

-- what a ring and then a source give is the front of the ring, and then the rest of both
prefix_and_rest : (n : ℕ) (bytes more : List ℕ) → bytes ++ more ≡ take n bytes ++ (drop n bytes ++ more)
prefix_and_rest n bytes more =
    ap (λ (l : List ℕ). l ++ more) (sym (take-append-drop n bytes)) ∙ append_assoc (take n bytes) (drop n bytes) more

module _ {E : Type 0} {gives : Error → E → Type 0} {eof : E → Bool} {A : Type 0} {seen : A → List ℕ} {n : ℕ} {x : A}
    {name : GName} {b : Bool} {mode : Mode} (source : SourceState) (ring : Ring) where
  prefix_served : n ≤ length ring.bytes → seen x ≡ take n ring.bytes
      → Reads gives eof seen (raw_bytes n) (Ok x) (ring_state name source ring b mode)
      (ring_state name source (record ring { bytes = drop n ring.bytes; room = [] }) b mode)
  unfolding raw_bytes
  prefix_served l same =
      let rest : Ring = record ring { bytes = drop n ring.bytes; room = [] } in
      let whole = prefix_and_rest n ring.bytes source.remaining in
      record {
        kept = record {
          fixed = refl;
          mode = refl;
          tidy = λ t. let p = tidy_parts ring b t in
              tidy_whole rest b p.0 (let m = p.1 in omega (arith, length-drop n ring.bytes));
          faults = omega arith;
          tail = λ _. (take n ring.bytes, whole);
        };
        answer = record {
          prefix = take n ring.bytes;
          prefix_is = (same, length-take-le n ring.bytes l);
          taken = λ _. whole;
          no_fault = refl;
          untouched = λ none.
              let zero : n ≡ 0 = omega (arith, length-take-le n ring.bytes l, ap length none) in
              ap (λ (m : ℕ). ring_state name source (record ring { bytes = drop m ring.bytes; room = [] }) b mode)
              zero;
        };
      }

  -- a read that the ring serves
  pub ring_served : {rest : Ring} → n ≤ length ring.bytes → seen x ≡ take n ring.bytes
      → rest ≡ record ring { bytes = drop n ring.bytes; room = [] }
      → Reads gives eof seen (raw_bytes n) (Ok x) (ring_state name source ring b mode)
      (ring_state name source rest b mode)
  ring_served l same is =
      subst (λ (r : Ring). Reads gives eof seen (raw_bytes n) (Ok x) (ring_state name source ring b mode)
      (ring_state name source r b mode)) (sym is) (prefix_served l same)

-- ---- bytes that are lent

-- where the ring holds none, they are those that the source lends
pub source_lent : {E : Type 0} {gives : Error → E → Type 0} {eof : E → Bool} {A : Type 0} {seen : A → List ℕ} {x : A}
    {n : ℕ} (ring : Ring) {name : GName} {b : Bool} {mode : Mode} {old new : SourceState}
    → ring.bytes ≡ [] → GivesLent n (seen x) old new
    → Reads gives eof seen (raw_bytes n) (Ok x) (ring_state name old ring b mode) (ring_state name new ring b mode)
unfolding raw_bytes
source_lent {seen = seen} {x = x} ring {name = name} {b = b} {mode = mode} {old = old} {new = new} none lent =
    let taken : IsTrue old.tells → ring.bytes ++ old.remaining ≡ seen x ++ (ring.bytes ++ new.remaining) =
    λ told. ap (λ (l : List ℕ). l ++ old.remaining) none
    ∙ (lent.moved told ∙ ap (λ (l : List ℕ). seen x ++ (l ++ new.remaining)) (sym none)) in
    record {
      kept = record {
        fixed = ap (λ (tells : Bool). stream_kind name tells b) lent.kept.tells;
        mode = refl;
        tidy = λ tidy. tidy;
        faults = lent.kept.faults;
        tail = λ told. (seen x, taken told);
      };
      answer = record {
        prefix = seen x;
        prefix_is = (refl, lent.count);
        taken = taken;
        no_fault = lent.no_fault;
        untouched = λ nothing. ap (λ (s : SourceState). ring_state name s ring b mode) (lent.untouched nothing);
      };
    }

-- ---- filling the ring

module _ {E : Type 0} {gives : Error → E → Type 0} {eof : E → Bool} {A : Type 0} {n : ℕ} {held keeps : Ring}
    {name : GName} {b : Bool} {mode : Mode} {old new : SourceState} where
  -- the source ended before the ring held enough
  pub fill_ended : {enough : Bool} {e : E} → enough ≡ false → FillsRing n b (Ok enough) held keeps old new
      → IsEnd gives eof true e
      → FillsUpTo gives eof {A = A} n (Err e) held keeps (ring_state name old held b mode)
      (ring_state name new keeps b mode)
  fill_ended less f ended = record {
    kept = record {
      fixed = ap (λ (tells : Bool). stream_kind name tells b) f.kept.tells;
      mode = refl;
      faults = f.kept.faults;
      remaining = f.moved;
    };
    capacity = f.capacity;
    untouched = λ enough. absurd (let short = f.short less in let same = (f.untouched enough).1 in
        omega (arith, ap (λ (r : Ring). length r.bytes) same));
    exact = f.exact;
    enough = tt;
    no_fault = tt;
    short = f.short less;
    why = inr (stream_ended f.no_fault ended (λ told.
        let short = f.short less in
        let all = ap length
        (sym (f.moved told) ∙ (ap (λ (l : List ℕ). keeps.bytes ++ l) (f.ended less told) ∙ append-nil keeps.bytes)) in
        omega (arith, all)));
  }

module _ {E : Type 0} {gives : Error → E → Type 0} {eof : E → Bool} {A B : Type 0} {seen : A → List ℕ} {n : ℕ} {x : A}
    {u : B} {held keeps : Ring} {name after : GName} {b c : Bool} {mode encoding' : Mode}
    (old new : SourceState) where
  -- a read by the ring, which was filled before
  pub filled_read : {rest : Ring} → length held.bytes < n
      → FillsUpTo gives eof n (Ok u) held keeps (ring_state name old held b mode)
      (ring_state after new keeps c encoding') → seen x ≡ take n keeps.bytes → rest ≡ record keeps {
        bytes = drop n keeps.bytes;
        room = [];
      }
      → Reads gives eof seen (raw_bytes n) (Ok x) (ring_state name old held b mode)
      (ring_state after new rest c encoding')
  unfolding raw_bytes
  filled_read {rest = rest} more f same is =
      let served = ring_served new keeps f.enough.0 same is in
      read_after_peek f.kept f.no_fault
      (λ t.
      let first : keeps.capacity ≡ first_capacity c =
      f.capacity
      ∙ ((tidy_parts held b t).0 ∙ ap (λ (kind : ReaderKind). first_capacity kind.buffers) (sym f.kept.fixed)) in
      let most : length keeps.bytes ≤ keeps.capacity = f.enough.1 in
      let size : length rest.bytes ≡ length keeps.bytes - n =
      ap (λ (r : Ring). length r.bytes) is ∙ length-drop n keeps.bytes in
      tidy_whole rest c (ap (λ (r : Ring). r.capacity) is ∙ first) (omega (arith, first, size)))
      served (λ none. let l = served.answer.prefix_is.1 in omega (arith, ap length none, l, more))

-- ---- peeks

-- a ring with other room has the same bytes
same_bytes : (source : SourceState) (ring held : Ring) {name : GName} {b : Bool} {mode : Mode}
    → held.bytes ≡ ring.bytes
    → KeptByPeek (ring_state name source ring b mode) (ring_state name source held b mode)
same_bytes source ring held same = record {
  fixed = refl;
  mode = refl;
  faults = omega arith;
  remaining = λ _. ap (λ (l : List ℕ). l ++ source.remaining) same;
}

module _ {E : Type 0} {gives : Error → E → Type 0} {eof : E → Bool} {A B : Type 0} {seen : A → List ℕ} {n : ℕ}
    {held keeps : Ring} {name after : GName} {b c : Bool} {mode encoding' : Mode} (old new : SourceState)
    (ring : Ring) (same : held.bytes ≡ ring.bytes) where
  -- a peek of a ring that was filled
  pub filled_peeked : {x : A} {u : B}
      → FillsUpTo gives eof n (Ok u) held keeps (ring_state name old held b mode)
      (ring_state after new keeps c encoding') → seen x ≡ take n keeps.bytes
      → Peeks gives eof seen (raw_bytes n) (Ok x) (ring_state name old ring b mode)
      (ring_state after new keeps c encoding')
  unfolding raw_bytes
  filled_peeked f is =
      let kept = KeptByPeek-after (same_bytes old ring held same) f.kept in
      record {
        kept = kept;
        answer = record {
          prefix = take n keeps.bytes;
          rest = drop n keeps.bytes ++ new.remaining;
          prefix_is = (is, length-take-le n keeps.bytes f.enough.0);
          stands = λ told. sym (kept.remaining told) ∙ prefix_and_rest n keeps.bytes new.remaining;
          no_fault = f.no_fault;
        };
      }

  -- and of one that could not be
  pub fill_not_peeked : {e : E} {result : Result A E} → IsErrAnd result (λ x. x ≡ e)
      → FillsUpTo gives eof {A = B} n (Err e) held keeps (ring_state name old held b mode)
      (ring_state after new keeps c encoding')
      → Peeks gives eof seen (raw_bytes n) result (ring_state name old ring b mode)
      (ring_state after new keeps c encoding')
  fill_not_peeked {e = e} passed f = Peeks-passed passed (record {
    kept = KeptByPeek-after (same_bytes old ring held same) f.kept;
    answer =
        inr (elim f.why [
          | inl h ↦ inl (inr (failed_call gives true h.0 e old.faults new.faults h.1 h.2))
          | inr h ↦ inr (record {
            no_fault = h.no_fault;
            kind = h.kind;
            because = λ told.
                subst (λ (l : List ℕ). Undecodable gives eof (raw_bytes n) e (l ++ old.remaining)) same
                (h.because (record {
                  tells = told.tells;
                  are_bytes = subst (λ (l : List ℕ). AreBytes (l ++ old.remaining)) (sym same) told.are_bytes;
                  fit = subst (λ (l : List ℕ). length (l ++ old.remaining) < 2 ^ 64 - 1) (sym same) told.fit;
                  lends = told.lends;
                }));
          })
        ]);
  })

-- ---- reads past the ring

module _ {filled : List ℕ} (held rest : Ring) {name : GName} {b : Bool} {mode : Mode} {old new : SourceState}
    (same_capacity : rest.capacity ≡ held.capacity) (emptied : rest.bytes ≡ []) where
  past_kept : {result : Result Bool StdIoError} → FillsList filled result old new
      → Kept (ring_state name old held b mode) (ring_state name new rest b mode)
  past_kept f = record {
    fixed = ap (λ (tells : Bool). stream_kind name tells b) f.kept.tells;
    mode = refl;
    tidy = λ t. tidy_whole rest b (same_capacity ∙ (tidy_parts held b t).0) (omega (arith, ap length emptied));
    faults = f.kept.faults;
    tail = λ told.
        let t = f.tail told in (
          held.bytes ++ t.0,
          ap (λ (l : List ℕ). held.bytes ++ l) t.1
              ∙ (sym (append_assoc held.bytes t.0 new.remaining)
              ∙ ap (λ (l : List ℕ). (held.bytes ++ t.0) ++ (l ++ new.remaining)) (sym emptied)),
        );
  }

  module _ {E : Type 0} {gives : Error → E → Type 0} {eof : E → Bool} {n : ℕ} {A : Type 0} {seen : A → List ℕ} where
    -- the output is full
    pub past_read : {full : Bool} {x : A} → IsTrue full → FillsList filled (Ok full) old new
        → seen x ≡ held.bytes ++ filled → length held.bytes + length filled ≡ n → length held.bytes < n
        → Reads gives eof seen (raw_bytes n) (Ok x) (ring_state name old held b mode)
        (ring_state name new rest b mode)
    unfolding raw_bytes
    past_read all f same sized more = record {
      kept = past_kept f;
      answer = record {
        prefix = held.bytes ++ filled;
        prefix_is = (same, length-append held.bytes filled ∙ sized);
        taken = λ told. ap (λ (l : List ℕ). held.bytes ++ l) (f.full all told)
            ∙ (sym (append_assoc held.bytes filled new.remaining)
            ∙ ap (λ (l : List ℕ). (held.bytes ++ filled) ++ (l ++ new.remaining)) (sym emptied));
        no_fault = f.no_fault;
        untouched = λ none. absurd (omega (arith, ap length none, length-append held.bytes filled, sized, more));
      };
    }

    -- the source ended before
    pub past_ended : {full : Bool} {e : E} → full ≡ false → FillsList filled (Ok full) old new → IsEnd gives eof true e
        → length held.bytes + length filled ≡ n
        → Reads gives eof seen (raw_bytes n) (Err e) (ring_state name old held b mode)
        (ring_state name new rest b mode)
    past_ended less f ended sized = record {
      kept = past_kept f;
      answer =
          inr (stream_ended f.no_fault ended
          (λ told. let short = f.ended less told in omega (arith, length-append held.bytes old.remaining)));
    }

  module _ {E : Type 0} {gives : Error → E → Type 0} {eof : E → Bool} {A : Type 0} {seen : A → List ℕ} where
    -- a call failed
    pub past_failed : (n : ℕ) {error : StdIoError} {e : E} → FillsList filled (Err error) old new
        → IsErrorOf gives error e
        → Reads gives eof seen (raw_bytes n) (Err e) (ring_state name old held b mode)
        (ring_state name new rest b mode)
    past_failed n {error = error} {e = e} f is = record {
      kept = past_kept f;
      answer = inl (inr (failed_call gives true error e old.faults new.faults f.fault is));
    }

-- ---- forms

module _ {E : Type 0} (gives : Error → E → Type 0) (eof : E → Bool) {A V : Type 0} (seen : A → V) (L : Format V)
    (b c : Bool) (ring left : Ring) (name after : GName) (mode encoding' : Mode) (old new : SourceState)
    (empty : ring.bytes ≡ []) (capacity : ring.capacity ≡ first_capacity b) where
  value_taken : (result : Result A E)
      → Reads gives eof seen L result (ring_state name old ring b mode) (ring_state after new left c encoding')
      → IfOk result (λ x. TookPrefix (L.encodes (seen x)) (most_held b) old new)
  value_taken (Ok x) r =
      let tidy = tidy_parts left c (r.kept.tidy (tidy_whole ring b capacity (omega (arith, ap length empty)))) in
      record {
        prefix = r.answer.prefix;
        ahead = left.bytes;
        prefix_is = r.answer.prefix_is;
        at_most = subst (λ (kind : ReaderKind). length left.bytes ≤ most_held kind.buffers) r.kept.fixed tidy.1;
        taken = λ told. ap (λ (l : List ℕ). l ++ old.remaining) (sym empty) ∙ r.answer.taken told;
        no_fault = r.answer.no_fault;
        untouched = λ none. ap (λ (s : ReaderState). s.source) (r.answer.untouched none);
      }
  value_taken (Err e) r = tt

  refusal_is : (result : Result A E)
      → Reads gives eof seen L result (ring_state name old ring b mode) (ring_state after new left c encoding')
      → IfErr result (λ e. WantsMemory gives L.asks.memory b e old new
      ⊎ (IsOfFailedCall gives e old.faults new.faults ⊎ RefusesStream gives eof L e old new))
  refusal_is (Ok x) r = tt
  refusal_is (Err e) r =
      elim r.answer [
        | inl (inl want) ↦ inl (record {
          given = want.0;
          of = elim want.1 [ inl takes ↦ inl takes | inr never ↦ absurd (true≢false (sym never)) ];
          no_fault = want.2;
        })
        | inl (inr fault) ↦ inr (inl (fault.1 refl))
        | inr h ↦ inr (inr (record {
          no_fault = h.no_fault;
          kind = h.kind;
          because = λ tells are fit needs.
              subst (λ (l : List ℕ). Undecodable gives eof L e (l ++ old.remaining)) empty
              (h.because (record {
                tells = tells;
                are_bytes = subst (λ (l : List ℕ). AreBytes (l ++ old.remaining)) (sym empty) are;
                fit = subst (λ (l : List ℕ). length (l ++ old.remaining) < 2 ^ 64 - 1) (sym empty) fit;
                lends = λ need. absurd (true≢false (sym need ∙ needs));
              }));
        }))
      ]

  -- what a new reader of a source answers, and leaves of it
  reader_answered : (result : Result A E)
      → Reads gives eof seen L result (ring_state name old ring b mode) (ring_state after new left c encoding')
      → AnswersStreamIn gives eof seen L b result old new
  reader_answered result r = record {
    kept = record { tells = ap (λ (kind : ReaderKind). kind.tells) r.kept.fixed; faults = r.kept.faults };
    tail = λ told.
        let t = r.kept.tail told in (
          t.0 ++ left.bytes,
          ap (λ (l : List ℕ). l ++ old.remaining) (sym empty) ∙ (t.1 ∙ sym (append_assoc t.0 left.bytes new.remaining)),
        );
    value = value_taken result r;
    refused = refusal_is result r;
  }

-- the reader that was made holds the source under its name
pub view_name : {S C : Type 0} (r : StreamReader S C) {context : C} {name : GName} {source : S} {ring : Ring} {b : Bool}
    → stream_model r ≡ record { context = context; source_name = name; source = source; ring = ring; is_buffering = b }
    → r.source.ghost_name ≡ name
view_name {S = S} {C = C} r shown = ap (λ (v : StreamModel S C). v.source_name) shown

module _ {E : Type 0} {gives : Error → E → Type 0} {eof : E → Bool} {A V : Type 0} {seen : A → V} where
  -- and a function that made it
  pub stream_answered : {S C : Type 0} (source : S → SourceState) (asks : C → Mode) (format : Mode → Format V)
      (first last : StreamReader S C) {context : C} {name : GName} {origin final : S} {ring : Ring} {buffers : Bool}
      {result : Result A E} → stream_model first ≡ record {
        context = context;
        source_name = name;
        source = origin;
        ring = ring;
        is_buffering = buffers;
      } → ring ≡ record { bytes = []; capacity = first_capacity buffers; room = [] } → final ≡ last.source.now
      → Reads gives eof seen (format (asks first.context)) result (stream_state source asks first)
      (stream_state source asks last)
      → AnswersStreamIn gives eof seen (format (asks context)) buffers result (source origin) (source final)
  stream_answered {S = S} {C = C} source asks format first last {context = context} {origin = origin} {final = final}
      {buffers = buffers} {result = result} shown made is_last r =
      let new : SourceState = source last.source.now in
      let ring : first.ring ≡ record { bytes = []; capacity = first_capacity buffers; room = [] } =
      ap (λ (v : StreamModel S C). v.ring) shown ∙ made in
      let same_way : first.is_buffering ≡ buffers = ap (λ (v : StreamModel S C). v.is_buffering) shown in
      subst (λ (s : SourceState). AnswersStreamIn gives eof seen (format (asks context)) buffers result
      (source origin) s) (sym (ap source is_last))
      (subst (λ (s : S). AnswersStreamIn gives eof seen (format (asks context)) buffers result (source s) new)
      (ap (λ (v : StreamModel S C). v.source) shown)
      (subst (λ (way : Bool). AnswersStreamIn gives eof seen (format (asks context)) way result
      (source first.source.now) new) same_way
      (subst (λ (c : C). AnswersStreamIn gives eof seen (format (asks c)) first.is_buffering result
      (source first.source.now) new) (ap (λ (v : StreamModel S C). v.context) shown)
      (reader_answered gives eof seen (format (asks first.context)) first.is_buffering last.is_buffering first.ring
      last.ring first.source.ghost_name last.source.ghost_name (asks first.context) (asks last.context)
      (source first.source.now) new (ap (λ (r : Ring). r.bytes) ring)
      (ap (λ (r : Ring). r.capacity) ring ∙ ap (λ (b : Bool). first_capacity b) (sym same_way)) result r))))

-- what a call that succeeded ensures
pub succeeded : {T F : Type 0} (r : Result T F) {P : Type 0} → is_err r ≡ false → OnOk r P → P
succeeded (Ok t) right h = h
succeeded (Err e) right h = absurd (true≢false right)
