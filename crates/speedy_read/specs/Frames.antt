-- How a value is read that fills its frame.
use Rattle.std.specs.Prelude.{◌≡◌, ℕ, List, Bool, true, false, IsTrue, ◌⊎◌}
use Rattle.std.specs.Prelude.{Result, MatchResult}
use Rattle.speedy_base.specs.declared.error.ErrorKind.TheVariants as kinds
use Rattle.speedy_base.specs.declared.error.Error.{Error}
use Rattle.speedy_base.specs.Digits.{AreBytes}
use Rattle.speedy_base.specs.Mode.{Mode}
use Rattle.speedy_base.specs.Error.{error_of, IsNamed}
use Rattle.speedy_layout.specs.Codes.{coding}
use Rattle.speedy_layout.specs.Format.{Format}
use Rattle.speedy_layout.specs.Frames.{frame_code, frame_asks, AreCounted, IsMisfit}
use Rattle.speedy_layout.specs.Texts.{raw_bytes}
use Rattle.speedy_layout.specs.Wholes.{Misfits}
use Rattle.speedy_read.specs.Reading.{refusing_kinds}

-- values that fill n bytes; bytes that are too many or too few for one are of a wrong length
abbrev pub filling : {V : Type 0} → Mode → Format V → Misfits → ℕ → Format V
filling f F misfits n = record (coding f (frame_code F) (raw_bytes n)) {
  wrong_length = IsMisfit f (raw_bytes n).encodes F misfits;
  asks = frame_asks F.asks;
}

module _ {E : Type 0} (gives : Error → E → Type 0) where
  -- bytes that no value fills were refused, as its type refuses them or as too many or too few
  pub record Unfilled {V : Type 0} (F : Format V) (misfits : Misfits) (lends : Bool) (e : E) (bytes : List ℕ)
      : Type 0 where
    pub kind : IsNamed gives (λ kind. refusing_kinds F lends kind ⊎ (kind ≡ kinds.OutOfRangeLength)) e
    pub because : AreBytes bytes → AreCounted bytes → (IsTrue F.asks.lending → IsTrue lends)
        → (v : V) → F.encodes v bytes → ⊥
    -- those that are too many or too few as that alone
    pub misfit : AreBytes bytes → AreCounted bytes → (IsTrue F.asks.lending → IsTrue lends)
        → misfits.too_many bytes ⊎ misfits.too_few bytes → gives (error_of kinds.OutOfRangeLength) e

  -- what was answered of the bytes of a frame, which are lent or not: a value that fills them, want of memory for it,
  -- or that none does
  abbrev pub FillsFrame : {A V : Type 0} → (A → V) → Format V → Misfits → Bool → Result A E → List ℕ → Type 0
  FillsFrame seen F misfits lends result bytes =
      MatchResult result
      (λ x. F.encodes (seen x) bytes × AreCounted bytes)
      (λ e. (gives (error_of kinds.OutOfMemory) e × IsTrue F.asks.memory) ⊎ Unfilled F misfits lends e bytes)

  -- what is made of a read of all bytes of a frame: an end of them is refused as a length
  abbrev pub FillsUnlessEnd : {A : Type 0} → (E → Bool) → Result A E → Result A E → Type 0
  FillsUnlessEnd eof read result =
      MatchResult read
      (λ x. MatchResult result (λ y. y ≡ x) (λ _. ⊥))
      (λ e. MatchResult result
      (λ _. ⊥)
      (λ x. ((x ≡ e) × (eof e ≡ false)) ⊎ (gives (error_of kinds.OutOfRangeLength) x × (eof e ≡ true))))
