-- Reads of a reader that is held by a `&mut`.
use Rattle.std.specs.Prelude.{ℕ, List, drop, Bool, Option, Some, None, Result, Ok, Err}
use Rattle.std.specs.Borrow.{GName}
use Rattle.std.proofs.Common.{ap, inl, inr}
use Rattle.speedy_base.specs.declared.error.Error.{Error}
use Rattle.speedy_layout.specs.Format.{Format}
use Rattle.speedy_layout.specs.Wholes.{Misfits}
use Rattle.speedy_read.specs.Reading.{ReaderKind, ReaderState, Kept, KeptByPeek, Got, IsTold, Refused, Reads}
use Rattle.speedy_read.specs.Reading.{LendsUntilUsed, Peeks}
use Rattle.speedy_read.specs.Buffers.{held_kind, held_state}
use Rattle.speedy_read.specs.Wholes.{ReadsWhole}

module _ (name : GName) {old new : ReaderState} where
  held_kept : Kept old new → Kept (held_state name old) (held_state name new)
  held_kept k = record {
    fixed = ap (λ (kind : ReaderKind). held_kind name kind) k.fixed;
    mode = k.mode;
    tidy = k.tidy;
    faults = k.faults;
    tail = k.tail;
  }

  held_kept_by_peek : KeptByPeek old new → KeptByPeek (held_state name old) (held_state name new)
  held_kept_by_peek k = record {
    fixed = ap (λ (kind : ReaderKind). held_kind name kind) k.fixed;
    mode = k.mode;
    faults = k.faults;
    remaining = k.remaining;
  }

  held_got : {encoded : List ℕ → Type 0} → Got encoded old new → Got encoded (held_state name old) (held_state name new)
  held_got g = record {
    prefix = g.prefix;
    prefix_is = g.prefix_is;
    taken = g.taken;
    no_fault = g.no_fault;
    untouched = λ none. ap (λ (s : ReaderState). held_state name s) (g.untouched none);
  }

  held_refused : {E : Type 0} {gives : Error → E → Type 0} {eof : E → Bool} {V : Type 0} {L : Format V} {e : E}
      → Refused gives eof L e old new → Refused gives eof L e (held_state name old) (held_state name new)
  held_refused k = record {
    no_fault = k.no_fault;
    kind = k.kind;
    because = λ told. k.because
        (record { tells = told.tells; are_bytes = told.are_bytes; fit = told.fit; lends = told.lends });
  }

  module _ {E : Type 0} {gives : Error → E → Type 0} {eof : E → Bool} {A V : Type 0} {seen : A → V} {L : Format V} where
    -- what reads see of a reader is the same whether it is held or not
    pub held_reads : {result : Result A E} → Reads gives eof seen L result old new
        → Reads gives eof seen L result (held_state name old) (held_state name new)
    held_reads {result = Ok x} r = record { kept = held_kept r.kept; answer = held_got r.answer }
    held_reads {result = Err e} r = record {
      kept = held_kept r.kept;
      answer = elim r.answer [ inl x ↦ inl x | inr k ↦ inr (held_refused k) ];
    }

    pub held_peeks : {result : Result A E} → Peeks gives eof seen L result old new
        → Peeks gives eof seen L result (held_state name old) (held_state name new)
    held_peeks {result = Ok x} r = record {
      kept = held_kept_by_peek r.kept;
      answer = record {
        prefix = r.answer.prefix;
        rest = r.answer.rest;
        prefix_is = r.answer.prefix_is;
        stands = r.answer.stands;
        no_fault = r.answer.no_fault;
      };
    }
    held_peeks {result = Err e} r = record {
      kept = held_kept_by_peek r.kept;
      answer =
          elim r.answer [ inl x ↦ inl x | inr (inl x) ↦ inr (inl x) | inr (inr k) ↦ inr (inr (held_refused k)) ];
    }

-- ---- what the reader shows that was held

abbrev unheld : ReaderState → ReaderState
unheld s = record s { fixed = record s.fixed { targets = drop 1 s.fixed.targets } }

held_told : {V : Type 0} {L : Format V} {name : GName} {s : ReaderState} → IsTold L s → IsTold L (held_state name s)
held_told told = record { tells = told.tells; are_bytes = told.are_bytes; fit = told.fit; lends = told.lends }

module _ {name after : GName} {old new : ReaderState} where
  unheld_kept : Kept (held_state name old) (held_state after new) → Kept old new
  unheld_kept k = record {
    fixed = ap (λ (kind : ReaderKind). record kind { targets = drop 1 kind.targets }) k.fixed;
    mode = k.mode;
    tidy = k.tidy;
    faults = k.faults;
    tail = k.tail;
  }

  unheld_got : {encoded : List ℕ → Type 0} → Got encoded (held_state name old) (held_state after new)
      → Got encoded old new
  unheld_got g = record {
    prefix = g.prefix;
    prefix_is = g.prefix_is;
    taken = g.taken;
    no_fault = g.no_fault;
    untouched = λ none. ap unheld (g.untouched none);
  }

  module _ {E : Type 0} {gives : Error → E → Type 0} {eof : E → Bool} {A V : Type 0} {seen : A → V} {L : Format V} where
    -- what was read by a reader that holds it was read from it
    pub unheld_reads : {result : Result A E}
        → Reads gives eof seen L result (held_state name old) (held_state after new)
        → Reads gives eof seen L result old new
    unheld_reads {result = Ok x} r = record { kept = unheld_kept r.kept; answer = unheld_got r.answer }
    unheld_reads {result = Err e} r = record {
      kept = unheld_kept r.kept;
      answer =
          elim r.answer [
            | inl x ↦ inl x
            | inr k ↦ inr (record {
              no_fault = k.no_fault;
              kind = k.kind;
              because = λ told. k.because (held_told told);
            })
          ];
    }

    -- a value that has all of the bytes too
    pub unheld_whole : {misfits : Misfits} {result : Result A E}
        → ReadsWhole gives eof seen L misfits result (held_state name old) (held_state after new)
        → ReadsWhole gives eof seen L misfits result old new
    unheld_whole {result = Ok x} r = record { kept = unheld_kept r.kept; answer = r.answer }
    unheld_whole {result = Err e} r = record {
      kept = unheld_kept r.kept;
      answer =
          elim r.answer [
            | inl x ↦ inl x
            | inr k ↦ inr (record {
              kind = k.kind;
              because = λ told. k.because (held_told told);
              too_many = λ told. k.too_many (held_told told);
              too_few = λ told. k.too_few (held_told told);
            })
          ];
    }

-- and lent alike, until the reader is used again
pub held_lends : {A E : Type 0} (shows : A → List ℕ) (n : ℕ) (name : GName) (lent : Option (Result A E))
    (old new : ReaderState) → LendsUntilUsed shows n lent old new
    → LendsUntilUsed shows n lent (held_state name old) (held_state name new)
held_lends shows n name None old new same = ap (λ (s : ReaderState). held_state name s) same
held_lends shows n name (Some result) old new read = held_reads name read
