-- How bytes that end with a NUL are read: where the NUL stands, and what follows from a read up to it.
use Rattle.std.specs.Prelude.{◌≡◌, ◌≢◌, ℕ, ◌+◌, ◌-◌, List, [], ◌∷◌, ◌++◌, length, take, Bool, false, IsTrue}
use Rattle.std.specs.Prelude.{Result, Ok, Err, MatchResult, IsErrAnd, refl}
use Rattle.std.specs.Str.{IsUtf8}
use Rattle.std.proofs.Common.{sym, ◌∙◌, ap, subst, inl, inr, arith}
use Rattle.std.proofs.lemmas.List.{append_assoc, append-nil, length-append}
use Rattle.std.proofs.lemmas.List.{take_at}
use Rattle.std.proofs.lemmas.List.Elements.{All-nil, All-push}
use Rattle.speedy_base.specs.declared.endianness.Endianness.{Endianness}
use Rattle.speedy_base.specs.declared.error.ErrorKind.{ErrorKind}
use Rattle.speedy_base.specs.declared.error.ErrorKind.TheVariants as kinds
use Rattle.speedy_base.specs.declared.error.Error.{Error}
use Rattle.speedy_base.specs.Error.{error_of}
use Rattle.speedy_base.specs.Digits.{AreBytes, EncodesNumber}
use Rattle.speedy_base.specs.DigitsLemmas.{AreBytes-append_parts, EncodesNumber-one_byte, EncodesNumber-is_one_byte}
use Rattle.speedy_base.specs.Mode.{Mode}
use Rattle.speedy_layout.specs.CText.{HasNoNul, NulWithin, some_nul, nul_ended, nul_ended_laws}
use Rattle.speedy_layout.specs.Codes.{coding, subset, subset_code}
use Rattle.speedy_layout.specs.Format.{Format}
use Rattle.speedy_layout.specs.Lists.{repeat, vector}
use Rattle.speedy_layout.specs.Numbers.{same_prefixes, unsigned_number}
use Rattle.speedy_layout.specs.Owned.{borrowed_content, owned_content}
use Rattle.speedy_layout.specs.Sequences.{AsksAtMost, asks_same}
use Rattle.speedy_layout.specs.Texts.{raw_bytes, each_byte, each_byte_is}
use Rattle.speedy_read.proofs.LentLemmas.{borrowed_covers, borrowed_read, not_lent}
use Rattle.speedy_read.proofs.OwnedLemmas.{memory_refused, owned_covers_owned, owned_read}
use Rattle.speedy_read.specs.Codes.{code_means_nothing, codes_cover, exact_code_read, got_covered, refused_covered}
use Rattle.speedy_read.specs.Reading.{ReaderState, Undecodable, Reads, IsEnd}
use Rattle.speedy_read.specs.ReadingLemmas.{Got-as, IsTold-after, IsTold-part, Kept-after, Kept-same, KeepsEof}
use Rattle.speedy_read.specs.ReadingLemmas.{ReadSoFar, Reads-passed, ends_input, more_so_far, none_so_far, part_refused}

-- ---- bytes without a NUL

module _ {E : Type 0} {gives : Error → E → Type 0} {eof : E → Bool} where
  lacks_nul : {e : E} {bytes : List ℕ} → HasNoNul bytes → IsTrue (eof e) → Undecodable gives eof nul_ended e bytes
  unfolding nul_ended
  lacks_nul none ended = record {
    no_prefix = λ v prefix rest is h.
        let whole = is ∙ (ap (λ x. x ++ rest) h.1 ∙ append_assoc v (0 ∷ []) rest) in
        some_nul v rest (subst HasNoNul whole none);
    too_short = λ _ _ _. ended;
    malformed = λ bad. absurd bad;
    wrong_length = λ wrong. absurd wrong;
  }

  owned_lacks_nul : {e : E} {bytes : List ℕ} → HasNoNul bytes → IsTrue (eof e)
      → Undecodable gives eof (owned_content nul_ended) e bytes
  unfolding owned_content
  owned_lacks_nul none ended =
      let why = lacks_nul none ended in
      record {
        no_prefix = why.no_prefix;
        too_short = why.too_short;
        malformed = why.malformed;
        wrong_length = why.wrong_length;
      }

  -- no NUL stands in what remains
  nul_missing : {A : Type 0} {seen : A → List ℕ} {e : E} {old : ReaderState} → KeepsEof gives eof
      → HasNoNul old.remaining → gives (error_of kinds.UnexpectedEndOfInput) e
      → Reads gives eof seen nul_ended (Err e) old old
  nul_missing {e = e} {old = old} keeps none given =
      let ended : IsEnd gives eof old.fixed.ends_by_device e = ends_input keeps given in
      record {
        kept = Kept-same;
        answer = inr (record { no_fault = refl; kind = inl ended; because = λ told. lacks_nul none ended.1 });
      }

  pub owned_nul_missing : {A : Type 0} {seen : A → List ℕ} {e : E} {old : ReaderState} → KeepsEof gives eof
      → HasNoNul old.remaining → gives (error_of kinds.UnexpectedEndOfInput) e
      → Reads gives eof seen (owned_content nul_ended) (Err e) old old
  owned_nul_missing keeps none given = owned_read (nul_missing keeps none given)

  pub lent_nul_missing : {A : Type 0} {seen : A → List ℕ} {e : E} {old : ReaderState} → KeepsEof gives eof
      → HasNoNul old.remaining → gives (error_of kinds.UnexpectedEndOfInput) e
      → Reads gives eof seen (borrowed_content nul_ended) (Err e) old old
  unfolding nul_ended
  lent_nul_missing keeps none given = borrowed_read nul_ended refl (nul_missing keeps none given)

-- ---- bytes up to a NUL that stands there

-- a read of so many bytes is not refused for what stands there
refused_at : {E : Type 0} {gives : Error → E → Type 0} {eof : E → Bool} {U A B : Type 0} {seen : A → U}
    {seen' : B → List ℕ} {L : Format U} {N : Format (List ℕ)} {e : E} {result : Result B E} {old new : ReaderState}
    {n : ℕ} (at : NulWithin old.remaining n) → IsErrAnd result (λ x. x ≡ e) → AsksAtMost L.asks N.asks
    → ((kind : ErrorKind) → L.names kind → N.names kind) → (u : U)
    → (AreBytes (at.before ++ 0 ∷ []) → L.encodes u (at.before ++ 0 ∷ []))
    → Reads gives eof seen L (Err e) old new → Reads gives eof seen' N result old new
refused_at {old = old} {new = new} at passed asks names u encoded r =
    let whole : old.remaining ≡ (at.before ++ 0 ∷ []) ++ at.behind =
    at.whole_is ∙ sym (append_assoc at.before (0 ∷ []) at.behind) in
    Reads-passed passed (record {
      kept = r.kept;
      answer = part_refused new refl refl asks.memory asks.lending names
          (λ told un. absurd ((un (IsTold-part asks.lending told)).no_prefix u (at.before ++ 0 ∷ []) at.behind whole
          (encoded (AreBytes-append_parts (at.before ++ 0 ∷ []) at.behind (subst AreBytes whole told.are_bytes)).0)))
          r.answer;
    })

all_within : {bytes : List ℕ} {n : ℕ} (at : NulWithin bytes n) → length (at.before ++ 0 ∷ []) ≡ n
all_within at = length-append at.before (0 ∷ []) ∙ at.so_many

module _ {E : Type 0} {gives : Error → E → Type 0} {eof : E → Bool} {A : Type 0} {seen : A → List ℕ}
    {old new : ReaderState} {n : ℕ} (at : NulWithin old.remaining n) where
  -- they and the NUL are taken
  pub nul_taken : {x : A} → IsTrue old.fixed.tells → Reads gives eof seen (raw_bytes n) (Ok x) old new
      → seen x ≡ at.before ++ 0 ∷ []
  unfolding raw_bytes
  nul_taken tells r =
      let got = r.answer in
      let is = got.prefix_is in
      let sized : length got.prefix ≡ length (at.before ++ 0 ∷ []) =
      is.1 ∙ sym (all_within at) in
      let whole : got.prefix ++ new.remaining ≡ (at.before ++ 0 ∷ []) ++ at.behind =
      sym (got.taken tells) ∙ (at.whole_is ∙ sym (append_assoc at.before (0 ∷ []) at.behind)) in
      is.0 ∙ (same_prefixes got.prefix (at.before ++ 0 ∷ []) new.remaining at.behind sized whole).0

  nul_got : {B : Type 0} {seen' : B → List ℕ} {x : A} {y : B} → IsTrue old.fixed.tells → seen' y ≡ at.before
      → Reads gives eof seen (raw_bytes n) (Ok x) old new → Reads gives eof seen' nul_ended (Ok y) old new
  unfolding raw_bytes nul_ended
  nul_got tells same r =
      got_covered (λ s h. (
        subst HasNoNul (sym same) at.has_none,
        sym h.0 ∙ (nul_taken tells r ∙ ap (λ v. v ++ 0 ∷ []) (sym same)),
      )) r

  module _ (mode : Mode) where
    raw_of : {x : A} → Reads gives eof seen (vector n (unsigned_number 1 mode)) (Ok x) old new
        → Reads gives eof seen (raw_bytes n) (Ok x) old new
    unfolding vector owned_content repeat unsigned_number raw_bytes
    raw_of {x = x} r =
        got_covered (λ s k. let is = each_byte_is mode.order (seen x) s k.1 in (is, ap length (sym is) ∙ k.0)) r

    -- read as items
    pub items_taken : {x : A} → IsTrue old.fixed.tells
        → Reads gives eof seen (vector n (unsigned_number 1 mode)) (Ok x) old new → seen x ≡ at.before ++ 0 ∷ []
    items_taken tells r = nul_taken tells (raw_of r)

    module _ {B : Type 0} {seen' : B → List ℕ} where
      pub items_got : {x : A} {y : B} → IsTrue old.fixed.tells → seen' y ≡ at.before
          → Reads gives eof seen (vector n (unsigned_number 1 mode)) (Ok x) old new
          → Reads gives eof seen' (owned_content nul_ended) (Ok y) old new
      items_got tells same r = owned_read (nul_got tells same (raw_of r))

      pub items_refused : {e : E} {result : Result B E} → IsErrAnd result (λ x. x ≡ e)
          → Reads gives eof seen (vector n (unsigned_number 1 mode)) (Err e) old new
          → Reads gives eof seen' (owned_content nul_ended) result old new
      unfolding vector owned_content repeat unsigned_number nul_ended
      items_refused passed r =
          refused_at at passed asks_same (λ kind h. h) (at.before ++ 0 ∷ [])
          (λ are. (all_within at, each_byte mode.order (at.before ++ 0 ∷ []) are)) r

  -- read as bytes that are lent
  module _ {B : Type 0} {seen' : B → List ℕ} where
    pub lent_got : {x : A} {y : B} → IsTrue old.fixed.tells → (seen x ≡ at.before ++ 0 ∷ [] → seen' y ≡ at.before)
        → Reads gives eof seen (borrowed_content (raw_bytes n)) (Ok x) old new
        → Reads gives eof seen' (borrowed_content nul_ended) (Ok y) old new
    unfolding borrowed_content nul_ended
    lent_got {x = x} tells same r =
        let raw : Reads gives eof seen (raw_bytes n) (Ok x) old new = got_covered (λ s h. h) r in
        borrowed_read nul_ended refl (nul_got tells (same (nul_taken tells raw)) raw)

    pub lent_refused : {e : E} {result : Result B E} → IsErrAnd result (λ x. x ≡ e)
        → Reads gives eof seen (borrowed_content (raw_bytes n)) (Err e) old new
        → Reads gives eof seen' (borrowed_content nul_ended) result old new
    unfolding borrowed_content raw_bytes nul_ended
    lent_refused passed r =
        refused_at at passed asks_same (λ kind h. h) (at.before ++ 0 ∷ []) (λ are. (refl, all_within at)) r

-- a reader that lends nothing
pub nul_not_lent : {E : Type 0} {gives : Error → E → Type 0} {eof : E → Bool} {A : Type 0} {seen : A → List ℕ} {e : E}
    {old : ReaderState} → old.fixed.lends ≡ false → gives (error_of kinds.Unsized) e
    → Reads gives eof seen (borrowed_content nul_ended) (Err e) old old
nul_not_lent nothing given = not_lent nul_ended (λ lends. absurd (cc)) refl given

-- the bytes before the NUL alone
pub without_nul : {bytes before : List ℕ} {n : ℕ} → bytes ≡ before ++ 0 ∷ [] → length before + 1 ≡ n
    → take (n - 1) bytes ≡ before
without_nul {before = before} {n = n} is sized =
    ap (take (n - 1)) is ∙ take_at before (0 ∷ []) (n - 1) (omega arith)

-- ---- byte by byte

-- from old to new bytes were taken of which none is a NUL, and then one more
pub record OneMore (passed : List ℕ) (byte : ℕ) (old new : ReaderState) : Type 0 where
  pub has_none : HasNoNul passed
  pub so_far : ReadSoFar (λ s. s ≡ passed ++ byte ∷ []) old new

-- no byte is there where none is read
nothing_left : (order : Endianness) (bytes : List ℕ) → AreBytes bytes
    → ((v : ℕ) (prefix rest : List ℕ) → bytes ≡ prefix ++ rest → EncodesNumber 1 order v prefix → ⊥) → bytes ≡ []
nothing_left order [] are none = refl
nothing_left order (b ∷ bytes) are none =
    absurd (none b (b ∷ []) bytes refl (EncodesNumber-one_byte order b are.0))

module _ {E : Type 0} {gives : Error → E → Type 0} {eof : E → Bool} (mode : Mode) where
  -- the next byte is one more
  next_byte : {passed : List ℕ} {byte : ℕ} {old mid new : ReaderState} → HasNoNul passed
      → ReadSoFar (λ s. s ≡ passed) old mid → Reads gives eof (λ (x : ℕ). x) (unsigned_number 1 mode) (Ok byte) mid new
      → OneMore passed byte old new
  unfolding unsigned_number
  next_byte none so_far r = record {
    has_none = none;
    so_far = more_so_far so_far r (λ s t h k. let is = EncodesNumber-is_one_byte mode.order _ t k in cc);
  }

  pub first_byte : {passed : List ℕ} {byte : ℕ} {old new : ReaderState} → passed ≡ []
      → Reads gives eof (λ (x : ℕ). x) (unsigned_number 1 mode) (Ok byte) old new → OneMore passed byte old new
  first_byte none r =
      next_byte (subst HasNoNul (sym none) (All-nil (λ b. b ≢ 0))) (none_so_far (sym none)) r

  module _ {passed : List ℕ} {byte : ℕ} {old mid new : ReaderState} (so_far : OneMore passed byte old mid)
      (other : byte ≢ 0) where
    pub byte_more : {more : List ℕ} {next : ℕ} → more ≡ passed ++ byte ∷ []
        → Reads gives eof (λ (x : ℕ). x) (unsigned_number 1 mode) (Ok next) mid new → OneMore more next old new
    byte_more {more = more} {next = next} is r =
        subst (λ (m : List ℕ). OneMore m next old new) (sym is)
        (next_byte (All-push (λ b. b ≢ 0) passed byte so_far.has_none other) so_far.so_far r)

  module _ {A B : Type 0} {seen : A → ℕ} {seen' : B → List ℕ} {e : E} {result : Result B E}
      (passed_on : IsErrAnd result (λ x. x ≡ e)) where
    -- where none is read, the bytes ended before a NUL
    next_refused : {passed : List ℕ} {old mid new : ReaderState} → HasNoNul passed
        → ReadSoFar (λ s. s ≡ passed) old mid → Reads gives eof seen (unsigned_number 1 mode) (Err e) mid new
        → Reads gives eof seen' (owned_content nul_ended) result old new
    unfolding unsigned_number owned_content nul_ended
    next_refused {passed = passed} {old = old} {mid = mid} {new = new} none so_far r =
        let refused : Reads gives eof seen' (owned_content nul_ended) (Err e) old new = record {
          kept = Kept-after so_far.kept r.kept;
          answer = part_refused {N = owned_content nul_ended} new so_far.kept.fixed so_far.got.no_fault (λ t. refl)
              (λ t. t) (λ kind h. h)
              (λ told un.
              let there = IsTold-after so_far.kept (λ t. t) told in
              let why = un there in
              let left : mid.remaining ≡ [] = nothing_left mode.order mid.remaining there.are_bytes why.no_prefix in
              let whole : old.remaining ≡ passed =
              so_far.got.taken told.tells
              ∙ (ap (λ x. so_far.got.prefix ++ x) left ∙ (append-nil so_far.got.prefix ∙ so_far.got.prefix_is)) in
              owned_lacks_nul (subst HasNoNul (sym whole) none)
              (why.too_short 0 (0 ∷ []) (subst (λ x. EncodesNumber 1 mode.order 0 (x ++ 0 ∷ [])) (sym left)
              (EncodesNumber-one_byte mode.order 0 (omega arith)))))
              r.answer;
        } in
        Reads-passed passed_on refused

    pub first_refused : {old new : ReaderState} → Reads gives eof seen (unsigned_number 1 mode) (Err e) old new
        → Reads gives eof seen' (owned_content nul_ended) result old new
    first_refused r = next_refused (All-nil (λ b. b ≢ 0)) (none_so_far refl) r

    pub byte_refused : {passed : List ℕ} {byte : ℕ} {old mid new : ReaderState} → OneMore passed byte old mid
        → byte ≢ 0 → Reads gives eof seen (unsigned_number 1 mode) (Err e) mid new
        → Reads gives eof seen' (owned_content nul_ended) result old new
    byte_refused {passed = passed} {byte = byte} so_far other r =
        next_refused (All-push (λ b. b ≢ 0) passed byte so_far.has_none other) so_far.so_far r

module _ {E : Type 0} {gives : Error → E → Type 0} {eof : E → Bool} {B : Type 0} {seen' : B → List ℕ}
    {passed : List ℕ} {byte : ℕ} {old new : ReaderState} (so_far : OneMore passed byte old new) where
  -- a NUL ends them
  pub nul_read : {y : B} → byte ≡ 0 → seen' y ≡ passed → Reads gives eof seen' (owned_content nul_ended) (Ok y) old new
  unfolding nul_ended
  nul_read {y = y} nul same =
      let read : Reads gives eof seen' nul_ended (Ok y) old new = record {
        kept = so_far.so_far.kept;
        answer = Got-as (λ s h. (
          subst HasNoNul (sym same) so_far.has_none,
          h ∙ (ap (λ b. passed ++ b ∷ []) nul ∙ ap (λ v. v ++ 0 ∷ []) (sym same)),
        )) so_far.so_far.got;
      } in
      owned_read read

  pub byte_no_room : {e : E} → gives (error_of kinds.OutOfMemory) e
      → Reads gives eof seen' (owned_content nul_ended) (Err e) old new
  byte_no_room given = memory_refused nul_ended so_far.so_far.kept so_far.so_far.got.no_fault given

-- ---- texts

module _ {E : Type 0} {gives : Error → E → Type 0} {eof : E → Bool} {A B : Type 0} {seen : A → List ℕ}
    {seen' : B → List ℕ} {old new : ReaderState} (mode : Mode) where
  decided : {x : A} {bytes : List ℕ} {r : Result B E} → seen x ≡ bytes
      → MatchResult r (λ t. (seen' t ≡ bytes) × IsUtf8 bytes)
      (λ e. gives (error_of kinds.InvalidUtf8) e × (IsUtf8 bytes → ⊥))
      → Reads gives eof seen nul_ended (Ok x) old new
      → Reads gives eof seen' (subset mode IsUtf8 kinds.InvalidUtf8 nul_ended) r old new
  decided {r = Ok t} same h read = exact_code_read _ _ _ (same ∙ sym h.0, subst IsUtf8 (sym h.0) h.1) read
  decided {r = Err e} same h read = code_means_nothing _ _ nul_ended_laws (λ _ h. h)
      (λ v k. h.1 (subst IsUtf8 (sym k.0 ∙ same) k.1)) (kinds.InvalidUtf8, refl, h.0) read

  -- bytes before a NUL are a text, or are refused as none
  pub owned_text_decides : {x : A} {bytes : List ℕ} {r : Result B E} → seen x ≡ bytes
      → MatchResult r (λ t. (seen' t ≡ bytes) × IsUtf8 bytes)
      (λ e. gives (error_of kinds.InvalidUtf8) e × (IsUtf8 bytes → ⊥))
      → Reads gives eof seen (owned_content nul_ended) (Ok x) old new
      → Reads gives eof seen' (owned_content (subset mode IsUtf8 kinds.InvalidUtf8 nul_ended)) r old new
  unfolding owned_content
  owned_text_decides same h read = owned_read (decided same h (got_covered (λ s k. k) read))

  pub owned_text_refused : {e : E} {result : Result B E} → IsErrAnd result (λ x. x ≡ e)
      → Reads gives eof seen (owned_content nul_ended) (Err e) old new
      → Reads gives eof seen' (owned_content (subset mode IsUtf8 kinds.InvalidUtf8 nul_ended)) result old new
  owned_text_refused passed r =
      refused_covered (owned_covers_owned (codes_cover mode (subset_code IsUtf8 kinds.InvalidUtf8))) passed r

  pub lent_text_decides : {x : A} {bytes : List ℕ} {r : Result B E} → seen x ≡ bytes
      → MatchResult r (λ t. (seen' t ≡ bytes) × IsUtf8 bytes)
      (λ e. gives (error_of kinds.InvalidUtf8) e × (IsUtf8 bytes → ⊥))
      → Reads gives eof seen (borrowed_content nul_ended) (Ok x) old new
      → Reads gives eof seen' (borrowed_content (subset mode IsUtf8 kinds.InvalidUtf8 nul_ended)) r old new
  unfolding borrowed_content nul_ended coding
  lent_text_decides same h read =
      borrowed_read (subset mode IsUtf8 kinds.InvalidUtf8 nul_ended) refl
      (decided same h (got_covered (λ s k. k) read))

  pub lent_text_refused : {e : E} {result : Result B E} → IsErrAnd result (λ x. x ≡ e)
      → Reads gives eof seen (borrowed_content nul_ended) (Err e) old new
      → Reads gives eof seen' (borrowed_content (subset mode IsUtf8 kinds.InvalidUtf8 nul_ended)) result old new
  lent_text_refused passed r =
      refused_covered (borrowed_covers (codes_cover mode (subset_code IsUtf8 kinds.InvalidUtf8))) passed r
