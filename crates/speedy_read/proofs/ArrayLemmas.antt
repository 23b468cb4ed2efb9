-- Arrays of numbers, which are read all at once of bytes that are lent.
use Rattle.std.specs.Prelude.{◌≡◌, ℕ, suc, ◌+◌, ◌*◌, List, [], ◌∷◌, ◌++◌, length, take, drop, Bool, Ok, refl}
use Rattle.std.proofs.Common.{sym, ◌∙◌, ap, subst, arith}
use Rattle.std.proofs.lemmas.List.{append_assoc, length-append, take-append-drop}
use Rattle.speedy_base.specs.declared.error.Error.{Error}
use Rattle.speedy_base.specs.declared.endianness.Endianness.{Endianness}
use Rattle.speedy_base.specs.Mode.{Mode}
use Rattle.speedy_layout.specs.FixedNumbers.{IsFixed, encoded_in}
use Rattle.speedy_layout.specs.Format.{Format, Each}
use Rattle.speedy_layout.specs.Laws.{Laws}
use Rattle.speedy_layout.specs.Lists.{each_as, repeat, vector}
use Rattle.speedy_layout.specs.Owned.{owned_content}
use Rattle.speedy_layout.specs.Sequences.{asks_nothing_more}
use Rattle.speedy_layout.specs.Texts.{raw_bytes}
use Rattle.speedy_read.specs.Codes.{Covers, got_covered}
use Rattle.speedy_read.specs.Reading.{ReaderState, Reads}
use Rattle.speedy_read.proofs.ChunkLemmas.{each_stands, each_sized}

-- the bytes of one array more are taken
pub one_taken : (width i n rest left : ℕ) → rest + i * width ≡ n * width → left + width ≡ rest
    → left + (i + 1) * width ≡ n * width
one_taken width i n rest left is cut =
    let next : i + 1 ≡ suc i = omega arith in
    let turned : suc i * width ≡ width + i * width = omega arith in
    let same = ap (λ (k : ℕ). k * width) next in
    omega (arith, same, turned, is, cut)

-- they lie behind those before
pub taken_behind : (digits done rest some more : List ℕ) (width : ℕ) → digits ≡ done ++ rest → some ≡ take width rest
    → more ≡ drop width rest → digits ≡ (done ++ some) ++ more
taken_behind digits done rest some more width is prefix suffix =
    is ∙ (ap (λ b. done ++ b) (sym (take-append-drop width rest) ∙ (cc)) ∙ sym (append_assoc done some more))

module _ {V : Type 0} {F : Mode → Format V} {least width : ℕ}
    (laws : (mode : Mode) → Laws mode.strict least (F mode)) (fixed : IsFixed width F) (m : ℕ) where
  -- what encodes arrays in the order of a mode encodes them in it
  arrays_stand : (mode : Mode) {order : Endianness} → order ≡ mode.order
      → (vss : List (List V)) (bytes : List ℕ)
      → Each (encoded_in (λ e. vector m (F e)) order) vss bytes → Each (vector m (F mode)).encodes vss bytes
  unfolding vector owned_content repeat
  arrays_stand mode same = each_as (λ vs b h. (
    h.0,
    each_stands laws fixed mode vs b (subst (λ (o : Endianness). Each (encoded_in F o) vs b) same h.1),
  ))

  -- arrays that the bytes encode which were read
  pub arrays_read : {E : Type 0} {gives : Error → E → Type 0} {eof : E → Bool} {A B : Type 0} {shown : A → List ℕ}
      {seen : B → List (List V)} {x : A} {y : B} {old new : ReaderState}
      (mode : Mode) {order : Endianness} (n size : ℕ) → order ≡ mode.order → length (seen y) ≡ n
      → Each (encoded_in (λ e. vector m (F e)) order) (seen y) (shown x)
      → Reads gives eof shown (raw_bytes size) (Ok x) old new
      → Reads gives eof seen (vector n (vector m (F mode))) (Ok y) old new
  unfolding raw_bytes vector owned_content repeat
  arrays_read {shown = shown} {seen = seen} {x = x} {y = y} mode n size same whole taken read =
      let stand = arrays_stand mode same (seen y) (shown x) taken in
      got_covered
      (λ s h. (whole, subst (λ (b : List ℕ). Each (vector m (F mode)).encodes (seen y) b) h.0 stand)) read

  module _ {size : ℕ} (is : size ≡ m * width) where
    -- n arrays have n times the bytes of one
    arrays_sized : (mode : Mode) (vss : List (List V)) (bytes : List ℕ)
        → Each (vector m (F mode)).encodes vss bytes → length bytes ≡ length vss * size
    unfolding vector owned_content repeat
    arrays_sized mode [] bytes h = ap length h ∙ omega arith
    arrays_sized mode (vs ∷ vss) bytes h =
        let one =
        each_sized laws fixed mode vs h.prefix h.first_is.1 ∙ (ap (λ n. n * width) h.first_is.0 ∙ sym is) in
        let more = arrays_sized mode vss h.suffix h.second_is in
        let l = ap length h.whole_is ∙ length-append h.prefix h.suffix in
        omega (arith, one, more, l)

    -- n arrays are read where n times their bytes are
    pub arrays_cover : (n : ℕ) {all : ℕ} → all ≡ n * size → (mode : Mode)
        → Covers (raw_bytes all) (vector n (vector m (F mode)))
    unfolding raw_bytes vector owned_content repeat
    arrays_cover n all_is mode = record {
      under = λ vss s h. (s, (refl, arrays_sized mode vss s h.1 ∙ (ap (λ k. k * size) h.0 ∙ sym all_is)));
      names = λ kind h. absurd h;
      malformed = λ bytes are h. absurd h;
      wrong_length = λ bytes are h. absurd h;
      asks = asks_nothing_more;
    }
