-- Flags that are read as bytes are.
use Rattle.std.specs.Prelude.{◌≡◌, ℕ, suc, List, [], ◌∷◌, length, map, Bool, false, not, nat_eq, Result, Ok, Err}
use Rattle.std.specs.Prelude.{MatchResult, IsErrAnd, refl}
use Rattle.std.proofs.Common.{◌∙◌, sym, ap, subst, inl}
use Rattle.std.proofs.lemmas.List.{length-map}
use Rattle.speedy_base.specs.declared.error.ErrorKind.TheVariants as kinds
use Rattle.speedy_base.specs.declared.error.Error.{Error}
use Rattle.speedy_base.specs.Error.{error_of}
use Rattle.speedy_base.specs.Digits.{EncodesNumber, AreBytes}
use Rattle.speedy_base.specs.DigitsLemmas.{EncodesNumber-one_byte}
use Rattle.speedy_base.specs.Mode.{Mode}
use Rattle.speedy_layout.specs.Codes.{Accepts-is, coding}
use Rattle.speedy_layout.specs.Flags.{flag, flag_code}
use Rattle.speedy_layout.specs.Format.{Each, Parts-joined}
use Rattle.speedy_layout.specs.Lists.{repeat, vector}
use Rattle.speedy_layout.specs.Numbers.{unsigned_number}
use Rattle.speedy_layout.specs.Owned.{owned_content}
use Rattle.speedy_layout.specs.Sequences.{asks_same}
use Rattle.speedy_layout.specs.Texts.{each_byte_is}
use Rattle.speedy_read.specs.Codes.{Covers, refused_covered, got_covered}
use Rattle.speedy_read.specs.Flags.{number_is_flag}
use Rattle.speedy_read.specs.Reading.{ReaderState, Reads}
use Rattle.speedy_read.proofs.ListLemmas.{refused_room}

-- where no canonical encoding is demanded, each byte is a flag
each_flag : (mode : Mode) → mode.strict ≡ false → (bytes : List ℕ) → AreBytes bytes
    → Each (flag mode).encodes (map (λ n. not (nat_eq n 0)) bytes) bytes
unfolding coding unsigned_number
each_flag mode plain [] are = refl
each_flag mode plain (b ∷ bytes) are =
    let is = Accepts-is mode.strict flag_code b (not (nat_eq b 0)) (number_is_flag b) (λ strict. absurd (cc)) in
    Parts-joined (b ∷ []) bytes
    (record { code = b; code_is = EncodesNumber-one_byte mode.order b are.0; stands = is })
    (each_flag mode plain bytes are.1)

-- and flags are encoded by bytes alone
flag_bytes : (mode : Mode) (flags : List Bool) (s : List ℕ) → Each (flag mode).encodes flags s
    → (codes : List ℕ) × (length codes ≡ length flags) × Each (EncodesNumber 1 mode.order) codes s
unfolding coding unsigned_number
flag_bytes mode [] s h = ([], refl, h)
flag_bytes mode (b ∷ flags) s h =
    let more = flag_bytes mode flags h.suffix h.second_is in (
      h.first_is.code ∷ more.0,
      ap suc more.1,
      record {
        prefix = h.prefix;
        suffix = h.suffix;
        whole_is = h.whole_is;
        first_is = h.first_is.code_is;
        second_is = more.2;
      },
    )

flags_cover : (n : ℕ) (mode : Mode) → Covers (vector n (unsigned_number 1 mode)) (vector n (flag mode))
unfolding vector owned_content repeat coding unsigned_number
flags_cover n mode = record {
  under = λ flags s h. let bytes = flag_bytes mode flags s h.1 in (bytes.0, (bytes.1 ∙ h.0, bytes.2));
  names = λ kind h. inl h;
  malformed = λ bytes are h. absurd h;
  wrong_length = λ bytes are h. absurd h;
  asks = asks_same;
}

module _ {E : Type 0} {gives : Error → E → Type 0} {eof : E → Bool} (mode : Mode) {A B : Type 0}
    {seen : A → List ℕ} {seen' : B → List Bool} {old new : ReaderState} (n : ℕ) where
  -- where no bytes are read, no flags are
  pub flags_refused : {e : E} {result : Result B E} → IsErrAnd result (λ x. x ≡ e)
      → Reads gives eof seen (vector n (unsigned_number 1 mode)) (Err e) old new
      → Reads gives eof seen' (vector n (flag mode)) result old new
  flags_refused passed r = refused_covered (flags_cover n mode) passed r

  -- the flags that bytes are, or want of memory for them
  pub flags_answered : mode.strict ≡ false → {x : A} (result : Result B E)
      → MatchResult result (λ y. seen' y ≡ map (λ m. not (nat_eq m 0)) (seen x)) (gives (error_of kinds.OutOfMemory))
      → AreBytes (seen x)
      → Reads gives eof seen (vector n (unsigned_number 1 mode)) (Ok x) old new
      → Reads gives eof seen' (vector n (flag mode)) result old new
  unfolding vector owned_content repeat unsigned_number
  flags_answered plain {x = x} (Ok y) h are r =
      got_covered (λ s bytes. (
        ap length h ∙ (length-map (seen x) (λ m. not (nat_eq m 0)) ∙ bytes.0),
        subst (λ (flags : List Bool). Each (flag mode).encodes flags s) (sym h)
            (subst (λ (t : List ℕ). Each (flag mode).encodes (map (λ m. not (nat_eq m 0)) (seen x)) t)
            (each_byte_is mode.order (seen x) s bytes.1) (each_flag mode plain (seen x) are)),
      )) r
  flags_answered plain (Err e) h are r = refused_room n (flag mode) e r.kept r.answer.no_fault refl h
