-- How zeros are written, some at a time.
use Rattle.std.specs.Prelude.{◌≡◌, ℕ, zero, suc, ◌+◌, ◌-◌, ◌≤◌, List, ◌++◌, length, map, Result, Ok, Err, IsErrAnd}
use Rattle.std.specs.Prelude.{refl}
use Rattle.std.proofs.Common.{sym, ◌∙◌, ap, subst, arith}
use Rattle.std.proofs.lemmas.List.{length-replicate, map-id, replicate-append-replicate}
use Rattle.speedy_base.specs.declared.error.Error.{Error}
use Rattle.speedy_base.specs.Digits.{AreBytes, EncodesNumber}
use Rattle.speedy_base.specs.Mode.{Mode}
use Rattle.speedy_layout.specs.Codes.{coding}
use Rattle.speedy_layout.specs.Format.{Each}
use Rattle.speedy_layout.specs.Lists.{repeat}
use Rattle.speedy_layout.specs.Numbers.{unsigned_codec, unsigned_number}
use Rattle.speedy_layout.specs.Padding.{zeros, padding_codec, zeros_codec}
use Rattle.speedy_layout.specs.Texts.{raw_bytes, each_byte, each_byte_is}
use Rattle.speedy_write.proofs.ListLemmas.{later_items_refused, listed_written, more_written}
use Rattle.speedy_write.specs.Sequences.{Writes-as}
use Rattle.speedy_write.specs.Writing.{WriterState, Writes, WritesEach}

-- n zeros are written
abbrev pub WritesZeros : {E : Type 0} → (Error → E → Type 0) → ℕ → Result (Unit {0}) E → WriterState → WriterState
    → (List ℕ → Type 0) → Type 0
WritesZeros gives n = WritesEach gives (unsigned_codec 1).format (λ b. b) (zeros n)

AreBytes-zeros : (n : ℕ) → AreBytes (zeros n)
AreBytes-zeros zero = tt
AreBytes-zeros (suc n) = (omega arith, AreBytes-zeros n)

-- ---- some after the others

module _ {E : Type 0} {gives : Error → E → Type 0} {old mid new : WriterState} {prefix suffix whole : List ℕ → Type 0}
    (join : (a b : List ℕ) → prefix a → suffix b → whole (a ++ b)) {chunk : List ℕ} (at size : ℕ)
    (are : chunk ≡ zeros size) (h : WritesZeros gives at (Ok tt) old mid prefix) where
  pub more_zeros_written : {done : Unit {0}}
      → WritesEach gives (unsigned_codec 1).format (λ b. b) chunk (Ok done) mid new suffix
      → WritesZeros gives (at + size) (Ok tt) old new whole
  more_zeros_written w =
      listed_written (unsigned_codec 1).format (λ b. b)
      (sym (replicate-append-replicate at size 0) ∙ ap (λ us. zeros at ++ us) (sym are))
      (more_written (unsigned_codec 1).format join (λ b. b) (zeros at) chunk h w)

  -- where they are refused, all are
  pub later_zeros_refused : {e : E} {result : Result (Unit {0}) E} (count : ℕ) → at + size ≤ count
      → IsErrAnd result (λ r. r ≡ e)
      → WritesEach gives (unsigned_codec 1).format (λ b. b) chunk (Err e) mid new suffix
      → WritesZeros gives count result old new whole
  later_zeros_refused count within passed w =
      let left = count - (at + size) in
      let sum : count ≡ at + (size + left) = omega arith in
      let parts : zeros count ≡ zeros at ++ (chunk ++ zeros left) =
      ap zeros sum ∙ (sym (replicate-append-replicate at (size + left) 0)
      ∙ ap (λ us. zeros at ++ us) (sym (replicate-append-replicate size left 0)
      ∙ ap (λ us. us ++ zeros left) (sym are))) in
      listed_written (unsigned_codec 1).format (λ b. b) parts
      (later_items_refused join (λ b. b) (zeros at) chunk (zeros left) (unsigned_codec 1).laws passed h w)

-- ---- zeros as bytes that mean nothing

-- as numbers of one byte zeros are zeros
zeros_encode : (mode : Mode) (n : ℕ)
    → (repeat (length (zeros n)) ((unsigned_codec 1).format mode)).writes (map (λ b. b) (zeros n)) (zeros n)
unfolding repeat unsigned_number
zeros_encode mode n = (
  ap length (map-id (zeros n)),
  subst (λ (vs : List ℕ). Each (EncodesNumber 1 mode.order) vs (zeros n)) (sym (map-id (zeros n)))
      (each_byte mode.order (zeros n) (AreBytes-zeros n)),
)

zeros_alone : (mode : Mode) (n : ℕ) (bytes : List ℕ)
    → (repeat (length (zeros n)) ((unsigned_codec 1).format mode)).writes (map (λ b. b) (zeros n)) bytes
    → (zeros n ≡ bytes) × (length bytes ≡ n)
unfolding repeat unsigned_number
zeros_alone mode n bytes h =
    let same : zeros n ≡ bytes =
    sym (map-id (zeros n)) ∙ each_byte_is mode.order (map (λ b. b) (zeros n)) bytes h.1 in
    (same, ap length (sym same) ∙ length-replicate {A = ℕ} n 0)

module _ {E : Type 0} {gives : Error → E → Type 0} {old new : WriterState} {appended : List ℕ → Type 0}
    {result : Result (Unit {0}) E} (n : ℕ) where
  -- zeros are written as padding is
  pub padding_written : WritesZeros gives n result old new appended
      → Writes gives (padding_codec n).format n result old new appended
  unfolding coding raw_bytes repeat unsigned_number
  padding_written w =
      Writes-as (λ kind h. h)
      (λ b h. record {
        code = zeros n;
        code_is = zeros_alone old.mode n b h;
        stands = (refl, refl);
      })
      (λ b h. (zeros n, zeros_encode old.mode n, ap length (sym h.stands.1 ∙ h.code_is.0)))
      (λ b h. (zeros n, zeros_encode old.mode n)) w

  -- and as zeros that have to stand there
  pub zeros_written : WritesZeros gives n result old new appended
      → Writes gives (zeros_codec n).format n result old new appended
  unfolding coding raw_bytes repeat unsigned_number
  zeros_written w =
      Writes-as (λ kind h. h)
      (λ b h. record {
        code = zeros n;
        code_is = zeros_alone old.mode n b h;
        stands = (refl, refl);
      })
      (λ b h. (zeros n, zeros_encode old.mode n, ap length (sym h.stands.1 ∙ h.code_is.0)))
      (λ b h. (zeros n, zeros_encode old.mode n)) w

pub ruleset zeros_are_written = (padding_written, zeros_written)
