-- What the ways of writing answer follows from what a write into a collector does.
use Rattle.std.specs.Prelude.{◌≡◌, ℕ, ◌-◌, ◌≤◌, List, ◌++◌, length, Bool, Result, Ok, Err, IsOk, refl}
use Rattle.std.specs.Borrow.{GName}
use Rattle.std.proofs.Common.{◌∙◌, sym, ap, subst, arith, inl, inr}
use Rattle.std.proofs.Math.Nat.{lt_of_not-le}
use Rattle.std.proofs.lemmas.List.{append-nil, drop_all}
use Rattle.speedy_base.specs.declared.error.Error.{Error}
use Rattle.speedy_base.specs.declared.device.Faults.{Faults}
use Rattle.speedy_base.specs.MemoryDevices.{no_faults}
use Rattle.speedy_base.specs.FailedCalls.{HasGrown}
use Rattle.speedy_base.specs.Mode.{Mode}
use Rattle.speedy_layout.specs.Format.{Format}
use Rattle.speedy_layout.specs.Wholes.{WholeLaws}
use Rattle.speedy_write.specs.Writing.{WriterState, Writes}
use Rattle.speedy_write.specs.Collectors.{buffer_state, BufferAppends, DoesNotFit}
use Rattle.speedy_write.specs.WaysOfWriting.{IsShortest, Stands}
use Rattle.speedy_write.specs.CollectorLemmas.{put_in_front}
use Rattle.speedy_write.specs.Sequences.{one_whole_length}

-- no call failed where none is counted
none_grown : (faults : Faults) → faults ≡ no_faults → HasGrown no_faults faults → ⊥
none_grown faults same grown =
    let none : faults.count ≡ 0 = ap (λ (f : Faults). f.count) same in
    elim grown [ inl h ↦ omega (arith, h, none) | inr h ↦ omega (arith, h, none) ]

module _ {E : Type 0} {gives : Error → E → Type 0} {V : Type 0} {F : Mode → Format V} {v : V} where
  -- a write into a buffer that has the room is never refused
  never_refused : {mode : Mode} {targets : List GName} {room : ℕ} {e : E} {after : WriterState}
      {appended : List ℕ → Type 0} (bytes : List ℕ) → (F mode).writes v bytes → length bytes ≤ room
      → after.faults ≡ no_faults → Writes gives F v (Err e) (buffer_state mode targets room) after appended → ⊥
  never_refused {after = after} bytes writes fit none w =
      elim w.answer.because [
        | inl h ↦ none_grown after.faults none h.0
        | inr h ↦ h.no_fit bytes writes fit
      ]

  -- a write into the whole of a buffer, whatever its state was called
  module _ {mode at : Mode} {targets : List GName} {p q : ℕ} {old A B : List ℕ} {after : WriterState}
      (same_mode : at ≡ mode) (same_buffer : A ≡ old) (starts : p ≡ 0) where
    restated : {result : Result (Unit {0}) E}
        → Writes gives F v result (buffer_state at targets (length A - p)) after (λ b. BufferAppends p A b q B)
        → Writes gives F v result (buffer_state mode targets (length old)) after (λ b. BufferAppends 0 old b q B)
    restated {result = result} w =
        let x =
        subst (λ (f : Mode). Writes gives F v result (buffer_state f targets (length A - p)) after
        (λ b. BufferAppends p A b q B)) same_mode w in
        let y =
        subst (λ (a : List ℕ). Writes gives F v result (buffer_state mode targets (length a - p)) after
        (λ b. BufferAppends p a b q B)) same_buffer x in
        let z =
        subst (λ (m : ℕ). Writes gives F v result (buffer_state mode targets (length old - m)) after
        (λ b. BufferAppends m old b q B)) starts y in
        subst (λ (room : ℕ). Writes gives F v result (buffer_state mode targets room) after
        (λ b. BufferAppends 0 old b q B)) (let e : length old - 0 ≡ length old = omega arith in e) z

    -- it succeeds where a canonical encoding fits
    pub fill_succeeds : (bytes : List ℕ) (result : Result (Unit {0}) E) → (F mode).writes v bytes
        → length bytes ≤ length old → after.faults ≡ no_faults
        → Writes gives F v result (buffer_state at targets (length A - p)) after (λ b. BufferAppends p A b q B)
        → IsOk result
    fill_succeeds bytes (Ok u) writes fit none w = refl
    fill_succeeds bytes (Err e) writes fit none w = absurd (never_refused bytes writes fit none (restated w))

    -- what is refused does not fit
    pub refused_too_long : {e : E} → after.faults ≡ no_faults
        → Writes gives F v (Err e) (buffer_state at targets (length A - p)) after (λ b. BufferAppends p A b q B)
        → DoesNotFit (F mode).writes v (length old)
    refused_too_long none w bytes writes =
        lt_of_not-le (λ fit. never_refused bytes writes fit none (restated w))

    -- and what it puts stands at the front
    pub fill_stands : {new : List ℕ} (result : Result (Unit {0}) E)
        → ((mode : Mode) → WholeLaws mode.strict (F mode)) → IsOk result → new ≡ B
        → Writes gives F v result (buffer_state at targets (length A - p)) after (λ b. BufferAppends p A b q B)
        → Stands (F mode) v old new
    fill_stands (Ok u) laws ok same w =
        let put = (restated w).answer in
        record {
          bytes = put.bytes;
          is_shortest = record {
            is_written = put.is_written;
            shortest = λ others k. (laws mode).shortest v put.bytes others put.is_written k;
          };
          new_is = same ∙ put_in_front refl refl put.is_appended;
        }
    fill_stands (Err e) laws ok same w = absurd (cc)

-- a buffer that is as long as what is written holds just that
pub filled_whole : {V : Type 0} {strict : Bool} {L : Format V} → WholeLaws strict L
    → (v : V) (bytes : List ℕ)
    → L.writes v bytes → {old new : List ℕ} → length bytes ≡ length old → Stands L v old new → IsShortest L v new
filled_whole {L = L} laws v bytes written {old = old} sized s =
    let size = one_whole_length laws v s.bytes bytes s.is_shortest.is_written written in
    let none = drop_all (length s.bytes) old (omega (arith, size, sized)) in
    let whole = s.new_is ∙ (ap (λ rest. s.bytes ++ rest) none ∙ append-nil s.bytes) in
    subst (IsShortest L v) (sym whole) s.is_shortest
