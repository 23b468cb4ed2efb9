-- Reads of what is lent make reads of what is borrowed.
use Rattle.std.specs.Prelude.{◌≡◌, ℕ, ◌*◌, List, [], ◌∷◌, length, Bool, true, false, IsTrue, Result, Ok, Err}
use Rattle.std.specs.Prelude.{MatchResult, IfOk, IsErrAnd, refl}
use Rattle.std.specs.Borrow.{Bor}
use Rattle.std.specs.Str.{IsUtf8}
use Rattle.std.proofs.Common.{sym, ◌∙◌, ap, subst, inl, inr, arith}
use Rattle.speedy_base.specs.declared.error.ErrorKind.TheVariants as kinds
use Rattle.speedy_base.specs.declared.error.Error.{Error}
use Rattle.speedy_base.specs.Error.{error_of}
use Rattle.speedy_base.specs.Digits.{AreBytes, EncodesNumber}
use Rattle.speedy_base.specs.Mode.{Mode}
use Rattle.speedy_layout.specs.Format.{Asks, Format, Each}
use Rattle.speedy_layout.specs.Lists.{repeat, vector, list, prefixed_list}
use Rattle.speedy_layout.specs.Numbers.{unsigned_number}
use Rattle.speedy_layout.specs.Owned.{owned_content, borrowed_content}
use Rattle.speedy_layout.specs.Prefixed.{Numbers}
use Rattle.speedy_layout.specs.Codes.{coding, subset, subset_code}
use Rattle.speedy_layout.specs.Texts.{raw_bytes, raw_bytes_laws, text_of_length, prefixed_text, each_byte}
use Rattle.speedy_layout.specs.Views.{each_one_size}
use Rattle.speedy_layout.specs.Sequences.{asks_nothing_more}
use Rattle.speedy_read.specs.Reading.{ReaderState, Kept, Reads, ShowsNothing}
use Rattle.speedy_read.specs.ReadingLemmas.{Kept-same}
use Rattle.speedy_read.specs.BehindCounts.{prefixed_text_composes, prefixed_list_composes}
use Rattle.speedy_read.specs.Sequences.{Composes}
use Rattle.speedy_read.specs.Codes.{Covers, refused_covered, got_covered, codes_cover, exact_code_read}
use Rattle.speedy_read.specs.Codes.{code_means_nothing}
use Rattle.speedy_read.proofs.OwnedLemmas.{owned_read}
use Rattle.speedy_read.proofs.ListLemmas.{list_composes}

-- what is not so is told by a test
pub lends_nothing : (lends : Bool) → (IsTrue lends → ⊥) → lends ≡ false
lends_nothing false not = refl
lends_nothing true not = absurd (not refl)

-- a reader that hands out slices can show something
pub slices_show : ShowsNothing {A = Bor (List ℕ)} (λ b. b.now) → ⊥
slices_show nothing = let none = nothing (record { ref_ptr = (0, 0); now = 0 ∷ [] }) in absurd (cc)

-- where a sequence is read, the borrowed one is too
pub borrowed_composes : {U V : Type 0} {W : U → Type 0} {L : Format U} {M : (u : U) → Format (W u)} {N : Format V}
    {join : (u : U) → W u → V} → L.asks.memory ≡ false → Composes L M N join
    → Composes L (λ u. borrowed_content (M u)) (borrowed_content N) join
unfolding borrowed_content
borrowed_composes none c = record {
  joins = c.joins;
  splits = c.splits;
  names_first = c.names_first;
  names_second = c.names_second;
  malformed = c.malformed;
  wrong_length = c.wrong_length;
  asks_first = record { lending = λ _. refl; hashed = c.asks_first.hashed; memory = λ t. absurd (cc) };
  asks_second = λ u. record { lending = λ _. refl; hashed = (c.asks_second u).hashed; memory = λ t. t };
}

-- what covers another format covers it where both are borrowed
pub borrowed_covers : {U V : Type 0} {L : Format U} {N : Format V} → Covers L N
    → Covers (borrowed_content L) (borrowed_content N)
unfolding borrowed_content
borrowed_covers c = record {
  under = c.under;
  names = c.names;
  malformed = c.malformed;
  wrong_length = c.wrong_length;
  asks = record { lending = λ _. refl; hashed = c.asks.hashed; memory = λ t. t };
}

content_covers : {V : Type 0} {L : Format V} → L.asks.memory ≡ false → Covers L (borrowed_content L)
unfolding borrowed_content
content_covers none = record {
  under = λ v s h. (v, h);
  names = λ kind h. h;
  malformed = λ bytes _ h. inl h;
  wrong_length = λ bytes _ h. inl h;
  asks = record { lending = λ _. refl; hashed = λ t. t; memory = λ t. absurd (cc) };
}

-- where n items of one size are encoded, there are the bytes of n items
pub bytes_cover_items : {V : Type 0} (size : ℕ) (F : Format V)
    → ((v : V) (bytes : List ℕ) → F.encodes v bytes → length bytes ≡ size) → (n : ℕ) {all : ℕ} → n * size ≡ all
    → Covers (raw_bytes all) (repeat n F)
unfolding raw_bytes repeat
bytes_cover_items size F one n whole = record {
  under = λ vs s h. (s, (refl, each_one_size one vs s h.1 ∙ (ap (λ m. m * size) h.0 ∙ whole)));
  names = λ kind h. absurd h;
  malformed = λ bytes are h. absurd h;
  wrong_length = λ bytes are h. absurd h;
  asks = asks_nothing_more;
}

bytes_cover : (n : ℕ) (mode : Mode) → Covers (raw_bytes n) (repeat n (unsigned_number 1 mode))
unfolding unsigned_number
bytes_cover n mode = bytes_cover_items 1 _ (λ v bytes h. h.width_is) n (omega arith)

bytes_encode_items : (n : ℕ) (mode : Mode) (bytes : List ℕ) → AreBytes bytes → (s : List ℕ)
    → (raw_bytes n).encodes bytes s → (repeat n (unsigned_number 1 mode)).encodes bytes s
unfolding raw_bytes repeat unsigned_number
bytes_encode_items n mode bytes are s h = (
  ap length h.0 ∙ h.1,
  subst (λ (t : List ℕ). Each (EncodesNumber 1 mode.order) bytes t) h.0 (each_byte mode.order bytes are),
)

module _ {E : Type 0} {gives : Error → E → Type 0} {eof : E → Bool} {old new : ReaderState} where
  -- what takes no memory is read where it is borrowed
  pub borrowed_read : {V : Type 0} (L : Format V) {A : Type 0} {seen' : A → V} {result : Result A E}
      → L.asks.memory ≡ false → Reads gives eof seen' L result old new
      → Reads gives eof seen' (borrowed_content L) result old new
  unfolding borrowed_content
  borrowed_read L {result = Ok x} none r = got_covered (λ s h. h) r
  borrowed_read L {result = Err e} none r = refused_covered (content_covers none) refl r

  -- what is borrowed is refused as `Unsized` where nothing is lent
  pub not_lent : {V : Type 0} (L : Format V) {A : Type 0} {seen' : A → V} {e : E} → (IsTrue old.fixed.lends → ⊥)
      → new ≡ old → gives (error_of kinds.Unsized) e → Reads gives eof seen' (borrowed_content L) (Err e) old new
  unfolding borrowed_content
  not_lent L nothing same g = record {
    kept = subst (λ (s : ReaderState). Kept old s) (sym same) Kept-same;
    answer = inr (record {
      no_fault = ap (λ (s : ReaderState). s.faults) same;
      kind = inr (kinds.Unsized, inr (refl, lends_nothing old.fixed.lends nothing, refl), g);
      because = λ told. absurd (nothing (told.lends refl));
    });
  }

  -- n were lent
  pub lent_length : {A : Type 0} {shows : A → List ℕ} {n : ℕ} {x : A}
      → Reads gives eof shows (borrowed_content (raw_bytes n)) (Ok x) old new → length (shows x) ≡ n
  unfolding borrowed_content raw_bytes
  lent_length r = let is = r.answer.prefix_is in ap length is.0 ∙ is.1

  module _ {A : Type 0} {shows : A → List ℕ} (n : ℕ) (mode : Mode) where
    -- lent bytes are items of one byte each
    pub items_lent : {result : Result A E} → IfOk result (λ x. AreBytes (shows x))
        → Reads gives eof shows (borrowed_content (raw_bytes n)) result old new
        → Reads gives eof shows (borrowed_content (vector n (unsigned_number 1 mode))) result old new
    unfolding borrowed_content vector owned_content
    items_lent {result = Ok x} are r = got_covered (bytes_encode_items n mode (shows x) are) r
    items_lent {result = Err e} are r = refused_covered (borrowed_covers (bytes_cover n mode)) refl r

    -- as they are of a vector, which a cow may borrow
    pub cow_lent : {result : Result A E} → IfOk result (λ x. AreBytes (shows x))
        → Reads gives eof shows (raw_bytes n) result old new
        → Reads gives eof shows (vector n (unsigned_number 1 mode)) result old new
    unfolding vector
    cow_lent {result = Ok x} are r = owned_read (got_covered (bytes_encode_items n mode (shows x) are) r)
    cow_lent {result = Err e} are r = owned_read (refused_covered (bytes_cover n mode) refl r)

    module _ {B : Type 0} {seen' : B → List ℕ} where
      -- lent bytes that are refused are no text
      pub text_not_lent : {e : E} {result : Result B E} → IsErrAnd result (λ x. x ≡ e)
          → Reads gives eof shows (borrowed_content (raw_bytes n)) (Err e) old new
          → Reads gives eof seen' (borrowed_content (text_of_length mode n)) result old new
      unfolding borrowed_content text_of_length owned_content
      text_not_lent passed r =
          refused_covered (borrowed_covers (codes_cover mode (subset_code IsUtf8 kinds.InvalidUtf8))) passed r

      text_decided : {x : A} {r : Result B E}
          → MatchResult r (λ t. (seen' t ≡ shows x) × IsUtf8 (shows x))
          (λ e. gives (error_of kinds.InvalidUtf8) e × (IsUtf8 (shows x) → ⊥))
          → Reads gives eof shows (raw_bytes n) (Ok x) old new
          → Reads gives eof seen' (subset mode IsUtf8 kinds.InvalidUtf8 (raw_bytes n)) r old new
      text_decided {r = Ok t} h read = exact_code_read _ _ _ (sym h.0, subst IsUtf8 (sym h.0) h.1) read
      text_decided {r = Err e} h read = code_means_nothing _ _ (raw_bytes_laws n) (λ _ h. h)
          (λ v k. h.1 (subst IsUtf8 (sym k.0) k.1)) (kinds.InvalidUtf8, refl, h.0) read

      -- those that are answered are one, or are refused as none
      pub text_lent : {x : A} {r : Result B E}
          → MatchResult r (λ t. (seen' t ≡ shows x) × IsUtf8 (shows x))
          (λ e. gives (error_of kinds.InvalidUtf8) e × (IsUtf8 (shows x) → ⊥))
          → Reads gives eof shows (borrowed_content (raw_bytes n)) (Ok x) old new
          → Reads gives eof seen' (borrowed_content (text_of_length mode n)) r old new
      unfolding borrowed_content text_of_length owned_content raw_bytes coding
      text_lent h read = borrowed_read (subset mode IsUtf8 kinds.InvalidUtf8 (raw_bytes n)) refl
          (text_decided h (got_covered (λ s h. h) read))

-- ---- sequences of a count and what is borrowed

pub str_composes : (numbers : Numbers) (f : Mode)
    → Composes (numbers.codec.format f) (λ n. borrowed_content (text_of_length f n))
    (borrowed_content (prefixed_text f (numbers.codec.format f))) (λ n t. t)
str_composes numbers f =
    borrowed_composes (ap (λ (a : Asks). a.memory) (numbers.none_asked f))
    (prefixed_text_composes f (numbers.codec.format f))

pub borrowed_items_compose : {V : Type 0} (numbers : Numbers) (F : Format V) (f : Mode)
    → Composes (numbers.codec.format f) (λ n. borrowed_content (vector n F))
    (borrowed_content (prefixed_list (numbers.codec.format f) F)) (λ n vs. vs)
borrowed_items_compose numbers F f =
    borrowed_composes (ap (λ (a : Asks). a.memory) (numbers.none_asked f))
    (prefixed_list_composes (numbers.codec.format f) F)

pub borrowed_list_composes : {V : Type 0} (F : Format V) (mode : Mode)
    → Composes (unsigned_number 4 mode) (λ n. borrowed_content (vector n F)) (borrowed_content (list mode F))
    (λ n vs. vs)
unfolding unsigned_number
borrowed_list_composes F mode = borrowed_composes refl (list_composes F mode)
