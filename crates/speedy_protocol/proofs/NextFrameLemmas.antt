-- How the next frame of a stream is taken: a byte and then a number are peeked, and then the frame is read.
use Rattle.std.specs.Prelude.{◌≡◌, ℕ, ◌+◌, ◌<◌, ◌≤◌, List, [], ◌∷◌, ◌++◌, length, false, IsTrue, ◌⊎◌, refl}
use Rattle.std.specs.Prelude.{codes, Some, Result, Ok, Err}
use Rattle.std.proofs.Common.{sym, ◌∙◌, ap, subst, arith, inl, inr}
use Rattle.std.proofs.lemmas.List.{append_assoc, length-append}
use Rattle.speedy.specs.declared.error.Error.{Error}
use Rattle.speedy.specs.declared.error.ErrorKind.{ErrorKind}
use Rattle.speedy.specs.declared.error.ErrorKind.TheVariants as kinds
use Rattle.speedy.specs.Digits.{AreBytes, EncodesNumber}
use Rattle.speedy.specs.DigitsLemmas.{AreBytes-append_parts, EncodesNumber-one_byte, EncodesNumber-is_one_byte}
use Rattle.speedy.specs.Error.{error_of, is_eof_error, kind_of, IsCustomOf, IsNamed}
use Rattle.speedy.specs.FailedCalls.{HasGrown}
use Rattle.speedy.specs.Format.{Format, Each}
use Rattle.speedy.specs.Lists.{prefixed_list, repeat, vector}
use Rattle.speedy.specs.Mode.{Mode}
use Rattle.speedy.specs.Numbers.{unsigned_number, unsigned_number_laws, same_prefixes}
use Rattle.speedy.specs.Owned.{owned_content, borrowed_content}
use Rattle.speedy.specs.Reading.{ReaderState, KeptByPeek, refusing_kinds, Excused, IsEnd, IsTold, PeekWants, Peeks}
use Rattle.speedy.specs.Reading.{Reads, Refused, Ahead, Got}
use Rattle.speedy.specs.ReadingLemmas.{KeptByPeek-same, KeptByPeek-after}
use Rattle.speedy.specs.Sequences.{sequence}
use Rattle.speedy.specs.Texts.{each_byte, each_byte_is}
use Rattle.speedy_protocol.specs.NextFrame.{IsClean, TakesNext, RefusesNext}
use Rattle.speedy.specs.Prefixes.{BeginsWith, BeginsWithNone}
use Rattle.speedy_protocol.proofs.MessageKinds.{any_frame_in}
use Rattle.speedy_protocol.proofs.RefusalLemmas.{itself}

-- what a peek or a read of a format is refused as
abbrev pub Fails : {V : Type 0} → Format V → Error → ReaderState → ReaderState → Type 0
Fails F e old new =
    PeekWants itself e old new ⊎ (Excused itself F.asks.memory e old new ⊎ Refused itself is_eof_error F e old new)

-- no prefix encodes a value
abbrev pub NoPrefix : {V : Type 0} → Format V → List ℕ → Type 0
NoPrefix {V = V} F bytes = (v : V) (prefix rest : List ℕ) → bytes ≡ prefix ++ rest → F.encodes v prefix → ⊥

-- a format that refuses nothing itself, and borrows nothing
abbrev pub IsPlain : {V : Type 0} → Format V → Type 0
IsPlain F = ((kind : ErrorKind) → F.names kind → ⊥) × (F.asks.lending ≡ false)

pub number_plain : (width : ℕ) (mode : Mode) → IsPlain (unsigned_number width mode)
unfolding unsigned_number
number_plain width mode = (λ kind h. h, refl)

pub bytes_plain : (n : ℕ) (mode : Mode) → IsPlain (vector n (unsigned_number 1 mode))
unfolding unsigned_number vector repeat owned_content
bytes_plain n mode = (λ kind h. h, refl)

unlent : {V : Type 0} (F : Format V) → IsPlain F → IsTrue F.asks.lending → ⊥
unlent F plain h = let none : IsTrue false = subst IsTrue plain.1 h in cc

plain_end : {V : Type 0} (F : Format V) {by_device lends : _} {e : Error} → IsPlain F
    → IsEnd itself is_eof_error by_device e ⊎ IsNamed itself (refusing_kinds F lends) e → IsTrue (is_eof_error e)
plain_end F plain (inl ends) = ends.1
plain_end F plain (inr (kind, inl named, given)) = absurd (plain.0 kind named)
plain_end F plain (inr (kind, inr h, given)) = absurd (unlent F plain h.0)

told : {V : Type 0} (F : Format V) {old mid : ReaderState} (new : ReaderState) → IsPlain F → KeptByPeek old mid
    → IsClean old new
    → IsTold F mid
told F new plain kept clean =
    let same = kept.remaining clean.0 in
    record {
      tells = rw kept.fixed clean.0;
      are_bytes = rw same clean.1;
      fit = rw same clean.2;
      lends = λ h. absurd (unlent F plain h);
    }

-- what is refused behind a peek refuses the frame, where no frame stands there
pub failed : {V : Type 0} (F : Format V) (most : ℕ) {e : Error} {old mid new : ReaderState} → IsPlain F
    → KeptByPeek old mid
    → (IsTrue old.fixed.tells → AreBytes old.remaining → NoPrefix F old.remaining
    → BeginsWithNone (any_frame_in old.mode) old.remaining)
    → Fails F e mid new → RefusesNext (any_frame_in old.mode) most e old new
failed F most {e = e} {old = old} {mid = mid} {new = new} plain kept none = of where
  grown : HasGrown mid.faults new.faults → HasGrown old.faults new.faults
  grown (inl more) = inl (omega (arith, kept.faults))
  grown (inr full) = inr full

  of : Fails F e mid new → RefusesNext (any_frame_in old.mode) most e old new
  of (inl wants) = inl wants.0
  of (inr (inl (inl wants))) = inl wants.0
  of (inr (inl (inr fault))) = inr (inl (grown fault.0))
  of (inr (inr refused)) =
      inr (inr (inl (
        plain_end F plain refused.kind,
        λ clean. none clean.0 clean.1
            (rw (kept.remaining clean.0) at (refused.because (told F new plain kept clean)).no_prefix),
      )))

-- ---- bytes that begin with no frame

-- those of which not even one is a byte
pub no_byte : (mode : Mode) (bytes : List ℕ) → AreBytes bytes → NoPrefix (unsigned_number 1 mode) bytes → bytes ≡ []
unfolding unsigned_number
no_byte mode [] are none = refl
no_byte mode (b ∷ rest) are none = absurd (none b (b ∷ []) rest refl (EncodesNumber-one_byte mode.order b are.0))

pub none_without_byte : (mode : Mode) (bytes : List ℕ) → AreBytes bytes → NoPrefix (unsigned_number 1 mode) bytes
    → BeginsWithNone (any_frame_in mode) bytes
unfolding sequence unsigned_number borrowed_content
none_without_byte mode bytes are none v rest begins =
    let empty = ap length (no_byte mode bytes are none) in
    let size = ap length begins.2 ∙ length-append begins.0 rest in
    let inner = ap length begins.1.whole_is ∙ length-append begins.1.prefix begins.1.suffix in
    let two = begins.1.first_is.width_is in
    absurd (omega arith)

-- those of which not even two are a number
pub none_without_number : (mode : Mode) (bytes : List ℕ) → NoPrefix (unsigned_number 2 mode) bytes
    → BeginsWithNone (any_frame_in mode) bytes
unfolding sequence borrowed_content
none_without_number mode bytes none v rest begins =
    let parts = begins.1 in
    none (length v) parts.prefix (parts.suffix ++ rest)
    (begins.2 ∙ (ap (λ xs. xs ++ rest) parts.whole_is ∙ append_assoc parts.prefix parts.suffix rest)) parts.first_is

-- a frame begins with the number that stands there
pub same_number : (mode : Mode) (bytes : List ℕ) (v : List ℕ) (n : ℕ) (prefix rest more : List ℕ)
    → (unsigned_number 2 mode).encodes n prefix → bytes ≡ prefix ++ more
    → BeginsWith (any_frame_in mode) v bytes rest → n ≡ length v
unfolding sequence borrowed_content
same_number mode bytes v n prefix rest more number whole begins =
    let parts = begins.1 in
    let split = begins.2 ∙ (ap (λ xs. xs ++ rest) parts.whole_is ∙ append_assoc parts.prefix parts.suffix rest) in
    ((unsigned_number_laws 2 mode).decodes n (length v) prefix parts.prefix more (parts.suffix ++ rest) number
    parts.first_is (sym whole ∙ split)).0

-- those of which fewer are there than their number says
pub none_without_content : (mode : Mode) (bytes : List ℕ) (n : ℕ) (prefix more : List ℕ) → AreBytes bytes
    → (unsigned_number 2 mode).encodes n prefix → bytes ≡ prefix ++ more
    → NoPrefix (vector (2 + n) (unsigned_number 1 mode)) bytes → BeginsWithNone (any_frame_in mode) bytes
unfolding sequence unsigned_number borrowed_content vector repeat owned_content
none_without_content mode bytes n prefix more are number whole none v rest begins =
    let same = same_number mode bytes v n prefix rest more number whole begins in
    let frame = begins.0 in
    let parts = begins.1 in
    let size = ap length parts.whole_is ∙ length-append parts.prefix parts.suffix in
    let two = parts.first_is.width_is in
    let content = ap length (each_byte_is mode.order v parts.suffix parts.second_is.1) in
    let items : length frame ≡ 2 + n = omega arith in
    let own = AreBytes-append_parts frame rest (subst AreBytes begins.2 are) in
    none frame frame rest begins.2 (items, each_byte mode.order frame own.0)

-- as many bytes as the number says behind it are a frame
pub parted : (mode : Mode) (items : List ℕ) (n : ℕ) (bytes rest number more : List ℕ) → length items ≡ 2 + n
    → Each (EncodesNumber 1 mode.order) items bytes → (unsigned_number 2 mode).encodes n number
    → bytes ++ rest ≡ number ++ more
    → (content : List ℕ) × (any_frame_in mode).encodes content items
unfolding sequence unsigned_number borrowed_content vector repeat owned_content
parted mode [] n bytes rest number more count each two whole = absurd (omega arith)
parted mode (a ∷ []) n bytes rest number more count each two whole = absurd (omega arith)
parted mode (a ∷ b ∷ items) n bytes rest number more count each two whole =
    let same = each_byte_is mode.order (a ∷ b ∷ items) bytes each in
    let width = two.width_is in
    let front : (a ∷ b ∷ [] ≡ number) × (items ++ rest ≡ more) =
    same_prefixes (a ∷ b ∷ []) number (items ++ rest) more (sym width) (ap (λ xs. xs ++ rest) same ∙ whole) in
    let left : length items ≡ n = omega arith in
    let tail = each.second_is.second_is in
    let is = each_byte_is mode.order items each.second_is.suffix tail in (
      items,
      record {
        prefix = a ∷ b ∷ [];
        suffix = items;
        whole_is = refl;
        first_is = rw (front.0, left) two;
        second_is = (refl, subst (λ b. Each (EncodesNumber 1 mode.order) items b) (sym is) tail);
      },
    )

-- ---- the steps of a call

-- what a peek of a number, or a read of so many bytes, answers
abbrev pub PeeksNumber : ℕ → Result ℕ Error → ReaderState → ReaderState → Type 0
PeeksNumber width result old new =
    Peeks itself is_eof_error (λ (n : ℕ). n) (unsigned_number width old.mode) result old new

-- where a peek of a byte says that the input ended, and no call failed, none is left
pub ended : {e : Error} {old new : ReaderState} → kind_of e ≡ kinds.UnexpectedEndOfInput
    → (let refused : Result ℕ Error = Err e in PeeksNumber 1 refused old new) → IsClean old new → old.remaining ≡ []
ended {e = e} {old = old} {new = new} is peeks clean = of peeks.answer where
  not_memory : e ≡ error_of kinds.OutOfMemory → ⊥
  not_memory memory = let other = sym is ∙ ap kind_of memory in absurd (cc)

  of : Fails (unsigned_number 1 old.mode) e old new → old.remaining ≡ []
  of (inl wants) = absurd (not_memory wants.0)
  of (inr (inl (inl wants))) = absurd (not_memory wants.0)
  of (inr (inl (inr fault))) = absurd (clean.3 fault.0)
  of (inr (inr refused)) =
      let plain = number_plain 1 old.mode in
      no_byte old.mode old.remaining clean.1
      (refused.because (told (unsigned_number 1 old.mode) new plain KeptByPeek-same clean)).no_prefix

-- it is refused otherwise
pub byte_refused : {e : Error} {old new : ReaderState} (most : ℕ)
    → (let refused : Result ℕ Error = Err e in PeeksNumber 1 refused old new)
    → RefusesNext (any_frame_in old.mode) most e old new
byte_refused {old = old} most peeks =
    failed (unsigned_number 1 old.mode) most (number_plain 1 old.mode) KeptByPeek-same
    (λ tells are none. none_without_byte old.mode old.remaining are none) peeks.answer

module _ {b : ℕ} {old mid new : ReaderState}
    (byte : (let peeked : Result ℕ Error = Ok b in PeeksNumber 1 peeked old mid)) where
  -- the number is refused
  pub number_refused : {e : Error} (most : ℕ) → (let refused : Result ℕ Error = Err e in PeeksNumber 2 refused mid new)
      → RefusesNext (any_frame_in old.mode) most e old new
  number_refused {e = e} most peeks =
      let same = byte.kept.mode in
      failed (unsigned_number 2 old.mode) most {old = old} {mid = mid} {new = new} (number_plain 2 old.mode) byte.kept
      (λ tells are none. none_without_number old.mode old.remaining none)
      (subst (λ (m : Mode). Fails (unsigned_number 2 m) e mid new) same peeks.answer)

  module _ {n : ℕ} (peeked : (let found : Result ℕ Error = Ok n in PeeksNumber 2 found mid new)) where
    both_kept : KeptByPeek old new
    both_kept = KeptByPeek-after byte.kept peeked.kept

    -- the number that stands there
    stands : IsTrue old.fixed.tells → old.remaining ≡ peeked.answer.prefix ++ peeked.answer.rest
    stands tells = sym (byte.kept.remaining tells) ∙ peeked.answer.stands (rw byte.kept.fixed tells)

    number_is : (unsigned_number 2 old.mode).encodes n peeked.answer.prefix
    number_is = rw byte.kept.mode at peeked.answer.prefix_is

    -- the number is past the limit
    pub past_limit : {e : Error} (most : ℕ) → most < n → IsCustomOf (codes "a message past the limit") (kind_of e)
        → RefusesNext (any_frame_in old.mode) most e old new
    past_limit most past custom =
        inr (inr (inr (
          custom,
          λ size rest tells begins.
              let answer = peeked.answer in
              let same = (unsigned_number_laws 2 old.mode).decodes size n begins.0 answer.prefix rest answer.rest
              begins.1 number_is (sym begins.2 ∙ stands tells) in
              rw same.0 past,
        )))

    module _ {last : ReaderState} where
      -- the frame is refused
      pub frame_refused : {A : Type 0} {seen : A → List ℕ} {e : Error} (most : ℕ)
          → (let refused : Result A Error = Err e in
          Reads itself is_eof_error seen (vector (2 + n) (unsigned_number 1 new.mode)) refused new last)
          → RefusesNext (any_frame_in old.mode) most e old last
      frame_refused {e = e} most reads =
          let same = both_kept.mode in
          failed (vector (2 + n) (unsigned_number 1 old.mode)) most {old = old} {mid = new} {new = last}
          (bytes_plain (2 + n) old.mode) both_kept
          (λ tells are none. none_without_content old.mode old.remaining n peeked.answer.prefix peeked.answer.rest are
          number_is (stands tells) none)
          (subst (λ (m : Mode). Fails (vector (2 + n) (unsigned_number 1 m)) e new last) same (inr reads.answer))

      -- the frame is taken
      pub frame_taken : {A : Type 0} {seen : A → List ℕ} {x : A} (most : ℕ) → n ≤ most
          → (let taken : Result A Error = Ok x in
          Reads itself is_eof_error seen (vector (2 + n) (unsigned_number 1 new.mode)) taken new last)
          → TakesNext (any_frame_in old.mode) most (Some (seen x)) old last
      unfolding vector repeat owned_content unsigned_number
      frame_taken {seen = seen} {x = x} most within reads =
          let got = rw both_kept.mode at reads.answer in
          let whole : IsTrue old.fixed.tells → old.remaining ≡ got.prefix ++ last.remaining =
          λ tells. sym (both_kept.remaining tells) ∙ got.taken (rw both_kept.fixed tells) in
          let count = got.prefix_is.0 in (
            omega arith,
            λ tells. let content = parted old.mode (seen x) n got.prefix last.remaining peeked.answer.prefix
                peeked.answer.rest count got.prefix_is.1 number_is (sym (whole tells) ∙ stands tells) in (
                  content.0,
                  content.1,
                  whole tells
                      ∙ ap (λ xs. xs ++ last.remaining)
                      (sym (each_byte_is old.mode.order (seen x) got.prefix got.prefix_is.1)),
                ),
          )
