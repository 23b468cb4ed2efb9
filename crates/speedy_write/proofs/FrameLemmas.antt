-- A number of bytes, and behind it a value of just these, make a frame.
use Rattle.std.specs.Prelude.{◌≡◌, ℕ, ◌-◌, ◌^◌, ◌<◌, List, [], ◌++◌, length, Result, Ok, Err, IsErrAnd, refl}
use Rattle.std.proofs.Common.{sym, ◌∙◌, subst, arith, inl, inr}
use Rattle.std.proofs.lemmas.Bool.{cases_lt}
use Rattle.speedy_base.specs.declared.error.Error.{Error}
use Rattle.speedy_base.specs.Mode.{Mode}
use Rattle.speedy_base.specs.Error.{passed_on}
use Rattle.speedy_layout.specs.Codes.{coding, Accepts-means}
use Rattle.speedy_layout.specs.Format.{Format, Parts-joined}
use Rattle.speedy_layout.specs.Frames.{frame, frame_behind, frame_code, AreCounted}
use Rattle.speedy_layout.specs.Wholes.{WholeLaws, WholeCodec}
use Rattle.speedy_layout.specs.Prefixed.{Numbers}
use Rattle.speedy_layout.specs.Sequences.{sequence}
use Rattle.speedy_layout.specs.Texts.{raw_bytes}
use Rattle.speedy_write.specs.Sequences.{Kept-same, IsOutOfRange-more, one_whole_length, Writes-as}
use Rattle.speedy_write.specs.WaysOfWriting.{NeedsIn}
use Rattle.speedy_write.specs.Writing.{WriterState, Writes}

-- a number, and then a value, whatever the number is
abbrev pub numbered : {V : Type 0} → Format ℕ → Format V → Format (ℕ × V)
numbered number F = sequence (λ p. p) number F.asks (λ _. F)

-- n bytes are those of a canonical encoding
abbrev pub WrittenIn : {V : Type 0} → Format V → V → ℕ → Type 0
WrittenIn F v n = (bytes : List ℕ) × F.writes v bytes × (n ≡ length bytes)

-- a number of bytes that was answered is below `usize::MAX`
pub counted_below : {E V : Type 0} {gives : Error → E → Type 0} {F : Format V} {v : V} {n : ℕ}
    → NeedsIn gives F v (Ok n) → n < 2 ^ 64 - 1
counted_below {n = n} needs =
    elim (cases_lt n (2 ^ 64 - 1)) [
      | inl h ↦ h
      | inr h ↦ absurd (needs.too_long needs.written.0 needs.written.1 (let long = needs.written.2 in omega arith))
    ]

-- what encodes a value in a frame
framed_encodes : {V : Type 0} (f : Mode) (number : Format ℕ) {F : Format V} → WholeLaws f.strict F
    → (v : V) (b : List ℕ) → (frame f number F).encodes v b
    → (bytes prefix : List ℕ) × F.encodes v bytes × AreCounted bytes × number.encodes (length bytes) prefix
unfolding frame coding sequence
framed_encodes f number {F = F} laws v b h =
    let means =
    Accepts-means f.strict (frame_code F) h.code v (λ k. (laws.written_encodes v h.code k.0, k.1)) h.stands in
    (h.code, h.code_is.prefix, means.0, means.1, h.code_is.first_is)

module _ {E V : Type 0} {gives : Error → E → Type 0} (numbers : Numbers) (value : WholeCodec V) {v : V}
    {old : WriterState} {appended : List ℕ → Type 0} where
  -- the number of a value's bytes and then the value are written as its frame
  pub frame_written : {n : ℕ} {new : WriterState} {result : Result (Unit {0}) E} → WrittenIn (value.format old.mode) v n
      → n < 2 ^ 64 - 1
      → Writes gives (λ f. numbered (numbers.codec.format f) (value.format f)) (n, v) result old new appended
      → Writes gives (frame_behind value numbers).format v result old new appended
  unfolding frame coding sequence raw_bytes
  frame_written {n = n} takes counted w =
      let f = old.mode in
      let laws = value.laws f in
      let bytes = takes.0 in
      let long = takes.2 in
      Writes-as
      (λ kind refused. elim refused [ inl h ↦ inl h | inr h ↦ inr h.1 ])
      (λ b h.
      let same : length h.suffix ≡ n = one_whole_length laws v h.suffix bytes h.second_is takes.1 ∙ sym long in
      record {
        code = h.suffix;
        code_is = record {
          prefix = h.prefix;
          suffix = h.suffix;
          whole_is = h.whole_is;
          first_is = subst (λ (m : ℕ). (numbers.codec.format f).writes m h.prefix) (sym same) h.first_is;
          second_is = (refl, refl);
        };
        stands = (h.second_is, omega arith);
      })
      (λ b h.
      let same : length h.code ≡ n = one_whole_length laws v h.code bytes h.stands.0 takes.1 ∙ sym long in (
        b,
        record {
          prefix = h.code_is.prefix;
          suffix = h.code_is.suffix;
          whole_is = h.code_is.whole_is;
          first_is = subst (λ (m : ℕ). (numbers.codec.format f).writes m h.code_is.prefix) same h.code_is.first_is;
          second_is = subst ((value.format f).writes v) h.code_is.second_is.0 h.stands.0;
        },
        refl,
      ))
      (λ b h.
      let k = framed_encodes old.mode (numbers.codec.format old.mode) laws v b h in
      let fewer = laws.shortest v bytes k.0 takes.1 k.2 in
      let number = numbers.smaller f n (length k.0) k.1 (omega arith) k.4 in (
        number.0 ++ bytes,
        Parts-joined number.0 bytes ((numbers.codec.laws f).written_encodes n number.0 number.1)
            (laws.written_encodes v bytes takes.1),
      ))
      w

  -- a value whose bytes cannot be counted has no frame
  pub frame_uncounted : {e : E} {result : Result (Unit {0}) E} → IsErrAnd result (λ x. x ≡ e)
      → NeedsIn gives (value.format old.mode) v (Err e) → appended []
      → Writes gives (frame_behind value numbers).format v result old old appended
  unfolding frame coding
  frame_uncounted {e = e} {result = result} passed needs nothing =
      let laws = value.laws old.mode in
      subst (λ (r : Result (Unit {0}) E). Writes gives (frame_behind value numbers).format v r old old appended)
      (passed_on result e passed)
      (record {
        kept = Kept-same old;
        answer = record {
          beginning = λ b h. record { prefix = []; rest = b; is_written = h; is_appended = nothing };
          appends = ([], nothing);
          because = inr (record {
            no_fault = refl;
            no_fit = λ b h fit. absurd (needs.answers h.code h.stands.0 h.stands.1);
            no_encoding = λ none b h.
                let k = framed_encodes old.mode (numbers.codec.format old.mode) laws v b h in
                let w = laws.has_written v k.0 k.2 in
                let fewer = laws.shortest v w.0 k.0 w.1 k.2 in
                let counted = k.3 in
                absurd (needs.answers w.0 w.1 (omega arith));
            kind = inr (IsOutOfRange-more gives e (λ kind h. inr h) needs.refused);
          });
        };
      })
