-- Frames: the number of a value's bytes, and then just these.
use Rattle.std.specs.Prelude.{◌≡◌, ℕ, ◌+◌, ◌-◌, ◌^◌, ◌<◌, ◌≤◌, List, ◌++◌, length, Bool, true, false, ◌||◌, ◌⊎◌}
use Rattle.std.specs.Prelude.{refl}
use Rattle.std.proofs.Common.{sym, ◌∙◌, ap, subst, arith, inl, inr}
use Rattle.std.proofs.lemmas.List.{length-append}
use Rattle.speedy_base.specs.declared.error.ErrorKind.{ErrorKind}
use Rattle.speedy_base.specs.declared.error.ErrorKind.TheVariants as kinds
use Rattle.speedy_base.specs.Mode.{Mode}
use Rattle.speedy_layout.specs.Codes.{Accepts, Codebook, IsCode, MeansNothing, coding, coding_laws}
use Rattle.speedy_layout.specs.Format.{Asks, Format, IsOwnKind, Parts-joined}
use Rattle.speedy_layout.specs.Laws.{Laws, Laws-less, Laws-lengths, Laws-refusing, WritesToo, writes_itself}
use Rattle.speedy_layout.specs.Numbers.{WritesSmaller}
use Rattle.speedy_layout.specs.Prefixed.{Numbers, Behind}
use Rattle.speedy_layout.specs.Sequences.{AsksAtMost, asks_nothing_more, counted_parts, sequence, sequence_laws}
use Rattle.speedy_layout.specs.Sequences.{sequence_written}
use Rattle.speedy_layout.specs.Texts.{raw_bytes, raw_bytes_laws}
use Rattle.speedy_layout.specs.Wholes.{Misfits, WholeLaws, WholeCodec}

-- a number of bytes, which is encoded as a format of numbers says, and then the bytes
abbrev pub prefixed_bytes : Format ℕ → Asks → Format (List ℕ)
prefixed_bytes number asks = sequence counted_parts number asks raw_bytes

-- the bytes can be counted
abbrev pub AreCounted : List ℕ → Type 0
AreCounted bytes = length bytes < 2 ^ 64 - 1

-- What the bytes of a frame stand for: a value that all of them encode. Others are refused as a value is, or as bytes
-- that are too many or too few for one.
abbrev pub frame_code : {V : Type 0} → Format V → Codebook (List ℕ) V
frame_code F = record {
  means = λ bytes v. F.encodes v bytes × AreCounted bytes;
  chosen = λ bytes v. F.writes v bytes × AreCounted bytes;
  refusals = λ kind. F.names kind ⊎ (kind ≡ kinds.OutOfRangeLength);
}

-- what a frame asks: that of its value, and memory for bytes that are not lent
abbrev pub frame_asks : Asks → Asks
frame_asks asks = record asks { memory = true }

-- bytes at whose start a frame stands that no value fills, since its bytes are too many or too few for one
pub record IsMisfit {V : Type 0} (f : Mode) (encodes : List ℕ → List ℕ → Type 0) (F : Format V) (misfits : Misfits)
    (bytes : List ℕ) : Type 0 where
  pub nothing : MeansNothing encodes (Accepts f.strict (frame_code F)) bytes
  pub misfit : misfits.too_many nothing.code ⊎ misfits.too_few nothing.code

-- the bytes of a frame, as a value
abbrev pub frame_coding : {V : Type 0} → Mode → Format ℕ → Format V → Format V
frame_coding f number F = coding f (frame_code F) (prefixed_bytes number (frame_asks F.asks))

-- A value behind the number of its bytes, which are fewer than `usize::MAX`.
unfoldable pub frame : {V : Type 0} → Mode → Format ℕ → Format V → Format V
frame f number F = record (frame_coding f number F) {
  refuses_writing = λ kind. number.refuses_writing kind ⊎ F.refuses_writing kind;
}

-- ---- laws

pub raw_asks : (asks : Asks) (n : ℕ) → AsksAtMost (raw_bytes n).asks asks
unfolding raw_bytes
raw_asks asks n = asks_nothing_more

pub prefixed_bytes_laws : {strict : Bool} {least : ℕ} {number : Format ℕ} (asks : Asks) → Laws strict least number
    → Laws strict least (prefixed_bytes number asks)
prefixed_bytes_laws {least = least} asks laws =
    Laws-less {n = least + 0} (omega arith)
    (sequence_laws {n = least} {m = 0} laws (λ n. Laws-less (omega arith) (raw_bytes_laws n)) (raw_asks asks)
    (λ v w e. ap (λ (p : ℕ × List ℕ). p.1) e))

-- where neither is asked, the second is not
second_unasked : (a b : Bool) → (a || b) ≡ false → b ≡ false
second_unasked true b e = absurd (cc)
second_unasked false b e = e

counted_unhashed : (number : Format ℕ) (asks : Asks) → (prefixed_bytes number asks).asks.hashed ≡ false
    → asks.hashed ≡ false
unfolding sequence
counted_unhashed number asks e = second_unasked number.asks.hashed asks.hashed e

-- bytes that are no more than those of a frame are written behind their number in no more bytes than it has
pub shorter_frame : {strict : Bool} {least : ℕ} {number : Format ℕ} (asks : Asks) → Laws strict least number
    → WritesSmaller number → (u w s : List ℕ) → length u ≤ length w → (prefixed_bytes number asks).encodes w s
    → (b : List ℕ) × (prefixed_bytes number asks).writes u b × (length b ≤ length s)
unfolding sequence raw_bytes
shorter_frame asks laws smaller u w s fewer h =
    let n = smaller (length u) (length w) h.prefix fewer h.first_is in
    let less = n.2 in
    let joined = length-append n.0 u in
    let whole = ap length h.whole_is ∙ length-append h.prefix h.suffix in
    let suffix = h.second_is.1 in (
      n.0 ++ u,
      Parts-joined n.0 u n.1 (refl, refl),
      omega arith,
    )

-- bytes of as many are written behind their number in as many bytes
pub written_frame : {strict : Bool} {least : ℕ} {number : Format ℕ} (asks : Asks) → Laws strict least number
    → WritesSmaller number → (u w b d : List ℕ) → length u ≤ length w → (prefixed_bytes number asks).writes u b
    → (prefixed_bytes number asks).encodes w d → length b ≤ length d
written_frame asks laws smaller u w b d fewer h k =
    let own = prefixed_bytes_laws asks laws in
    let other = shorter_frame asks laws smaller u w d fewer k in
    let first = own.shortest u b other.0 h (own.written_encodes u other.0 other.1) in
    let second = other.2 in
    omega arith

module _ {V : Type 0} {strict : Bool} {least : ℕ} {number : Format ℕ} {F : Format V}
    (numbers : Laws strict least number) (smaller : WritesSmaller number) (laws : WholeLaws strict F) where
  pub frame_is_code : IsCode (frame_code F) (prefixed_bytes number (frame_asks F.asks))
  frame_is_code = record {
    one_meaning = λ u v w h k. laws.one_value v w u h.0 k.0;
    one_chosen = λ none u w v h k. laws.one_written (counted_unhashed number (frame_asks F.asks) none) v u w h.0 k.0;
    tells = λ _ decided v w s t h k. laws.tells v w h.code k.code h.stands.0 k.stands.0;
    chosen_means = λ u v h. (laws.written_encodes v u h.0, h.1);
    has_chosen = λ v bytes h.
        let w = laws.has_written v h.code h.stands.0 in
        let fewer = laws.shortest v w.0 h.code w.1 h.stands.0 in
        let b = shorter_frame (frame_asks F.asks) numbers smaller w.0 h.code bytes fewer h.code_is in
        let whole = prefixed_bytes_laws (frame_asks F.asks) numbers in
        let are = h.stands.1 in
        (b.0, record { code = w.0; code_is = whole.written_encodes w.0 b.0 b.1; stands = (w.1, omega arith) });
    chosen_shortest = λ _ v b d h k.
        written_frame (frame_asks F.asks) numbers smaller h.code k.code b d
        (laws.shortest v h.code k.code h.stands.0 k.stands.0) h.code_is k.code_is;
    refusals_own = λ kind h.
        elim h [
          | inl named ↦ laws.names_own kind named
          | inr is ↦ subst IsOwnKind (sym is) tt
        ];
  }

refused_own : {V : Type 0} {strict : Bool} {least : ℕ} {number : Format ℕ} {F : Format V}
    → Laws strict least number → WholeLaws strict F → (kind : ErrorKind)
    → number.refuses_writing kind ⊎ F.refuses_writing kind → IsOwnKind kind
refused_own numbers laws kind (inl h) = numbers.refuses_own kind h
refused_own numbers laws kind (inr h) = laws.refuses_own kind h

pub frame_laws : {V : Type 0} (f : Mode) {least : ℕ} {number : Format ℕ} {F : Format V}
    → Laws f.strict least number → WritesSmaller number → WholeLaws f.strict F
    → Laws f.strict least (frame f number F)
unfolding frame
frame_laws f {number = number} {F = F} numbers smaller laws =
    Laws-refusing (λ kind. number.refuses_writing kind ⊎ F.refuses_writing kind) (refused_own numbers laws)
    (coding_laws f (prefixed_bytes_laws (frame_asks F.asks) numbers) (frame_is_code numbers smaller laws))

-- in which a length is wrong: the number itself, or one of bytes that are too many or too few
abbrev pub wrong_frame : {V : Type 0} → Mode → Format ℕ → Format V → Misfits → List ℕ → Type 0
wrong_frame f number F misfits bytes =
    let prefixed = prefixed_bytes number (frame_asks F.asks) in
    prefixed.wrong_length bytes ⊎ IsMisfit f prefixed.encodes F misfits bytes

pub wrong_frame_malformed : {V : Type 0} (f : Mode) {least : ℕ} {number : Format ℕ} (F : Format V) (misfits : Misfits)
    → Laws f.strict least number → (b : List ℕ) → wrong_frame f number F misfits b → (frame f number F).malformed b
unfolding frame coding
wrong_frame_malformed f F misfits numbers b (inl h) =
    inl ((prefixed_bytes_laws (frame_asks F.asks) numbers).wrong_length_malformed b h)
wrong_frame_malformed f F misfits numbers b (inr h) = inr h.nothing

pub frame_written : {V : Type 0} (f g : Mode) {number other : Format ℕ} {F G : Format V} → WritesToo number other
    → WritesToo F G → WritesToo (frame f number F) (frame g other G)
unfolding frame coding
frame_written f g numbers same = record {
  too = λ v b h. record {
    code = h.code;
    code_is = (sequence_written counted_parts _ _ numbers (λ n. writes_itself)).too h.code b h.code_is;
    stands = (same.too v h.code h.stands.0, h.stands.1);
  };
}

-- a value behind the number of its bytes
abbrev pub frame_behind : {V : Type 0} → WholeCodec V → (numbers : Numbers) → Behind numbers V
frame_behind value numbers = record {
  format = λ f. record (frame f (numbers.codec.format f) (value.format f)) {
    wrong_length = wrong_frame f (numbers.codec.format f) (value.format f) (value.misfits f);
  };
  laws = λ f.
      Laws-lengths (wrong_frame f (numbers.codec.format f) (value.format f) (value.misfits f))
      (wrong_frame_malformed f (value.format f) (value.misfits f) (numbers.codec.laws f))
      (frame_laws f (numbers.codec.laws f) (numbers.smaller f) (value.laws f));
  same_written = λ f strict. record {
    too = (frame_written f (record f { strict = strict }) (numbers.codec.same_written f strict)
        (value.same_written f strict)).too;
  };
}
