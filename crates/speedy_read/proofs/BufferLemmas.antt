-- Reads from bytes in memory.
use Rattle.std.specs.Prelude.{◌≡◌, ℕ, ◌<◌, ◌≤◌, List, [], ◌++◌, length, take, drop, Bool, true, false}
use Rattle.std.specs.Prelude.{Ok, Err, refl}
use Rattle.std.specs.List.{IsSplitAt}
use Rattle.std.specs.Borrow.{GName}
use Rattle.std.proofs.Common.{sym, ◌∙◌, ap, arith, inl, inr}
use Rattle.std.proofs.lemmas.List.{take-append-drop, length-take-le}
use Rattle.speedy_base.specs.declared.error.Error.{Error}
use Rattle.speedy_base.specs.Mode.{Mode}
use Rattle.speedy_layout.specs.Texts.{raw_bytes, any_bytes}
use Rattle.speedy_read.specs.Reading.{Kept, Reads, Peeks, IsEnd, ends_alone}
use Rattle.speedy_read.specs.ReadingLemmas.{Kept-same, KeptByPeek-same, ends_early, input_ended}
use Rattle.speedy_read.specs.Buffers.{memory_state}

-- a prefix was taken
pub Kept-rest : {lends : Bool} {targets : List GName} {bytes rest : List ℕ} {mode : Mode} (prefix : List ℕ)
    → bytes ≡ prefix ++ rest
    → Kept (memory_state lends targets bytes mode) (memory_state lends targets rest mode)
Kept-rest prefix is = record {
  fixed = refl;
  mode = refl;
  tidy = λ t. t;
  faults = omega arith;
  tail = λ _. (prefix, is);
}

-- where no byte is taken, all are left
none_taken : (n : ℕ) {lends : Bool} {targets : List GName} {bytes : List ℕ} {mode : Mode} → n ≤ length bytes
    → take n bytes ≡ [] → memory_state lends targets (drop n bytes) mode ≡ memory_state lends targets bytes mode
none_taken n {lends = lends} {targets = targets} {bytes = bytes} {mode = mode} l none =
    let zero : n ≡ 0 = omega (arith, length-take-le n bytes l, ap length none) in
    ap (λ (m : ℕ). memory_state lends targets (drop m bytes) mode) zero

module _ {E : Type 0} {gives : Error → E → Type 0} {eof : E → Bool} {A : Type 0} {n : ℕ} {lends : Bool}
    {targets : List GName} {bytes : List ℕ} {mode : Mode} where
  -- the bytes are there
  pub bytes_read : {seen : A → List ℕ} {x : A} → n ≤ length bytes → seen x ≡ take n bytes
      → Reads gives eof seen (raw_bytes n) (Ok x) (memory_state lends targets bytes mode)
      (memory_state lends targets (drop n bytes) mode)
  unfolding raw_bytes
  bytes_read l e = record {
    kept = Kept-rest (take n bytes) (sym (take-append-drop n bytes));
    answer = record {
      prefix = take n bytes;
      prefix_is = (e, length-take-le n bytes l);
      taken = λ _. sym (take-append-drop n bytes);
      no_fault = refl;
      untouched = λ none. none_taken n l none;
    };
  }

  pub bytes_skipped : {seen : A → Unit {0}} {x : A} → n ≤ length bytes
      → Reads gives eof seen (any_bytes n) (Ok x) (memory_state lends targets bytes mode)
      (memory_state lends targets (drop n bytes) mode)
  unfolding any_bytes
  bytes_skipped l = record {
    kept = Kept-rest (take n bytes) (sym (take-append-drop n bytes));
    answer = record {
      prefix = take n bytes;
      prefix_is = length-take-le n bytes l;
      taken = λ _. sym (take-append-drop n bytes);
      no_fault = refl;
      untouched = λ none. none_taken n l none;
    };
  }

  pub bytes_peeked : {seen : A → List ℕ} {x : A} → n ≤ length bytes → seen x ≡ take n bytes
      → Peeks gives eof seen (raw_bytes n) (Ok x) (memory_state lends targets bytes mode)
      (memory_state lends targets bytes mode)
  unfolding raw_bytes
  bytes_peeked l e = record {
    kept = KeptByPeek-same;
    answer = record {
      prefix = take n bytes;
      rest = drop n bytes;
      prefix_is = (e, length-take-le n bytes l);
      stands = λ _. sym (take-append-drop n bytes);
      no_fault = refl;
    };
  }

  -- and were cut off
  pub cut_read : {seen : A → List ℕ} {x : A} {prefix rest : List ℕ} → IsSplitAt bytes n prefix rest → seen x ≡ prefix
      → Reads gives eof seen (raw_bytes n) (Ok x) (memory_state lends targets bytes mode)
      (memory_state lends targets rest mode)
  cut_read cut same = rw cut.2 (bytes_read cut.0 (same ∙ cut.1))

  pub cut_skipped : {seen : A → Unit {0}} {x : A} {prefix rest : List ℕ} → IsSplitAt bytes n prefix rest
      → Reads gives eof seen (any_bytes n) (Ok x) (memory_state lends targets bytes mode)
      (memory_state lends targets rest mode)
  cut_skipped cut = rw cut.2 (bytes_skipped cut.0)

  pub cut_peeked : {seen : A → List ℕ} {x : A} {prefix rest : List ℕ} → IsSplitAt bytes n prefix rest → seen x ≡ prefix
      → Peeks gives eof seen (raw_bytes n) (Ok x) (memory_state lends targets bytes mode)
      (memory_state lends targets bytes mode)
  cut_peeked cut same = bytes_peeked cut.0 (same ∙ cut.1)

  -- the bytes are not there
  pub bytes_missed : {seen : A → List ℕ} {e : E} → length bytes < n → IsEnd gives eof false e
      → Reads gives eof seen (raw_bytes n) (Err e) (memory_state lends targets bytes mode)
      (memory_state lends targets bytes mode)
  unfolding raw_bytes
  bytes_missed l ended = record {
    kept = Kept-same;
    answer = inr (ends_early refl n (λ v s h. let k = h.1 in omega arith)
        (λ _ bad. elim bad [ inl h ↦ h | inr h ↦ h ]) ended (λ _ _. l));
  }

  pub bytes_not_skipped : {seen : A → Unit {0}} {e : E} → length bytes < n → IsEnd gives eof false e
      → Reads gives eof seen (any_bytes n) (Err e) (memory_state lends targets bytes mode)
      (memory_state lends targets bytes mode)
  unfolding any_bytes
  bytes_not_skipped l ended = record {
    kept = Kept-same;
    answer = inr (ends_early refl n (λ v s h. omega arith) (λ _ bad. elim bad [ inl h ↦ h | inr h ↦ h ]) ended
        (λ _ _. l));
  }

  pub bytes_not_peeked : {seen : A → List ℕ} {e : E} → length bytes < n → IsEnd gives eof false e
      → Peeks gives eof seen (raw_bytes n) (Err e) (memory_state lends targets bytes mode)
      (memory_state lends targets bytes mode)
  unfolding raw_bytes
  bytes_not_peeked l ended = record {
    kept = KeptByPeek-same;
    answer = inr (inr (ends_early refl n (λ v s h. let k = h.1 in omega arith)
        (λ _ bad. elim bad [ inl h ↦ h | inr h ↦ h ]) ended (λ _ _. l)));
  }

-- bytes that are lent until the next use are not there
pub bytes_not_lent : {A E : Type 0} {n : ℕ} {lends : Bool} {targets : List GName} {bytes : List ℕ} {mode : Mode}
    {seen : A → List ℕ} {e : E} → length bytes < n
    → Reads ends_alone (λ _. true) seen (raw_bytes n) (Err e) (memory_state lends targets bytes mode)
    (memory_state lends targets bytes mode)
bytes_not_lent {E = E} {e = e} l = bytes_missed l (input_ended (ends_alone {E = E}) (λ _. true) false e refl refl)
