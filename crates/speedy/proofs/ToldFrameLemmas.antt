-- A value whose number of bytes is told is read as what fills these, and written as it is.
use Rattle.std.specs.Prelude.{◌≡◌, ◌≢◌, ℕ, ◌-◌, ◌^◌, ◌<◌, List, [], length, Bool, Result, Ok, Err, IsErrAnd, refl}
use Rattle.std.proofs.Common.{sym, ◌∙◌, subst, arith, inl, inr}
use Rattle.speedy_base.specs.declared.error.ErrorKind.{ErrorKind}
use Rattle.speedy_base.specs.declared.error.ErrorKind.TheVariants as kinds
use Rattle.speedy_base.specs.declared.error.Error.{Error}
use Rattle.speedy_base.specs.Error.{error_of, IsNamed, passed_on}
use Rattle.speedy_base.specs.Mode.{Mode}
use Rattle.speedy_layout.specs.Codecs.{Codec}
use Rattle.speedy_layout.specs.Codes.{coding, Accepts, Accepts-is, Accepts-exact_means}
use Rattle.speedy_layout.specs.Format.{Format}
use Rattle.speedy_layout.specs.Frames.{frame_asks}
use Rattle.speedy_layout.specs.Lengths.{told_codec, told_length, IsOtherLength}
use Rattle.speedy_layout.specs.Sequences.{asks_same, sequence}
use Rattle.speedy_layout.specs.Texts.{raw_bytes}
use Rattle.speedy_layout.specs.Wholes.{Misfits, WholeLaws, WholeCodec}
use Rattle.speedy_read.specs.Codes.{Covers, got_covered, unaccepted}
use Rattle.speedy_read.specs.Frames.{filling}
use Rattle.speedy_read.specs.Reading.{ReaderState, Reads, Undecodable}
use Rattle.speedy_read.specs.Sequences.{Composes, sequence_composes}
use Rattle.speedy_write.specs.Sequences.{IsOutOfRange-more, one_whole_length, Writes-as}
use Rattle.speedy_write.specs.WaysOfWriting.{NeedsIn}
use Rattle.speedy_write.specs.Writing.{WriterState, Writes}
use Rattle.speedy_write.proofs.FrameLemmas.{counted_below}
use Rattle.speedy_write.proofs.NumberLemmas.{undecodable_refused}
use Rattle.speedy.specs.ToldFrames.{WrittenIn, bytes_asking, bytes_asking_laws, told_frame, told_frame_code}
use Rattle.speedy.specs.ToldFrames.{filling_means, raw_length, told_frame_asks, told_frame_fills, told_frame_means}
use Rattle.speedy.specs.ToldFrames.{with_frame_codec}

-- ---- reading

-- where no value fills n bytes, none does that is written in as many
pub filling_covers : {V : Type 0} (f : Mode) {F : Format V} (misfits : Misfits) → WholeLaws f.strict F → (n : ℕ)
    → Covers (filling f F misfits n) (told_frame f F misfits n)
unfolding told_frame coding
filling_covers f misfits laws n = record {
  under = λ v s h. (v, told_frame_fills f misfits laws n v s h);
  names = λ kind h. h;
  malformed = λ bytes are h.
      elim h [ inl x ↦ inl x | inr x ↦ inr (x.value, x.prefix, x.rest, x.whole_is, x.fills) ];
  wrong_length = λ bytes are h.
      elim h [ inl x ↦ inl x | inr x ↦ inr (x.value, x.prefix, x.rest, x.whole_is, x.fills) ];
  asks = asks_same;
}

-- a value that fills n bytes, and is written in as many
filling_told : {V : Type 0} (f : Mode) {F : Format V} (misfits : Misfits) → WholeLaws f.strict F → (n : ℕ) (v : V)
    → WrittenIn F v n → (s : List ℕ) → (filling f F misfits n).encodes v s → (told_frame f F misfits n).encodes v s
unfolding told_frame coding raw_bytes
filling_told f {F = F} misfits laws n v takes s h =
    let means = filling_means f laws v h.code h.stands in
    let long = raw_length n h.code s h.code_is in
    record {
      code = h.code;
      code_is = h.code_is;
      stands = Accepts-is f.strict (told_frame_code F) h.code v
          (means.0, means.1, (takes.0, takes.1, long ∙ takes.2))
          (λ strict. (laws.written_alone strict v h.code means.0, means.1));
    }

-- what fills bytes that are counted is written in bytes that are
pub filling_needs : {E A V : Type 0} {gives : Error → E → Type 0} {eof : E → Bool} {seen : A → V} (f : Mode)
    {F : Format V} {misfits : Misfits} → WholeLaws f.strict F → (n : ℕ) {x : A} {e : E} {old new : ReaderState}
    → NeedsIn gives F (seen x) (Err e) → Reads gives eof seen (filling f F misfits n) (Ok x) old new → ⊥
unfolding coding
filling_needs {seen = seen} f laws n {x = x} needs r =
    let h = r.answer.prefix_is in
    let means = filling_means f laws (seen x) h.code h.stands in
    let w = laws.has_written (seen x) h.code means.0 in
    let fewer = laws.shortest (seen x) w.0 h.code w.1 means.0 in
    let counted = means.1 in
    needs.answers w.0 w.1 (omega arith)

module _ {E A V : Type 0} {gives : Error → E → Type 0} {eof : E → Bool} {seen : A → V} (f : Mode) {F : Format V}
    {misfits : Misfits} (laws : WholeLaws f.strict F) (n : ℕ) {x : A} {old mid new : ReaderState} where
  -- what fills n bytes was read, and is written in as many
  pub told_frame_read : {written : ℕ} → NeedsIn gives F (seen x) (Ok written) → written ≡ n → new ≡ mid
      → Reads gives eof seen (filling f F misfits n) (Ok x) old mid
      → Reads gives eof seen (told_frame f F misfits n) (Ok x) old new
  told_frame_read needs same stays r =
      let takes = needs.written in
      subst (λ (s : ReaderState). Reads gives eof seen (told_frame f F misfits n) (Ok x) old s) (sym stays)
      (got_covered (filling_told f misfits laws n (seen x) (takes.0, takes.1, sym same ∙ takes.2)) r)

  -- what fills n bytes was read, and is written in another number of them
  pub told_frame_unread : {written : ℕ} {e : E} → NeedsIn gives F (seen x) (Ok written) → written ≢ n
      → new ≡ mid → gives (error_of kinds.OutOfRangeLength) e
      → Reads gives eof seen (filling f F misfits n) (Ok x) old mid
      → Reads gives eof seen (told_frame f F misfits n) (Err e) old new
  unfolding told_frame coding
  told_frame_unread {e = e} needs other stays given r =
      let h = r.answer.prefix_is in
      let means = filling_means f laws (seen x) h.code h.stands in
      let long = raw_length n h.code r.answer.prefix h.code_is in
      let nothing : (v : V) → Accepts f.strict (told_frame_code F) h.code v → ⊥ = λ v stands.
      let told = told_frame_means f laws v h.code stands in
      let same = laws.one_value v (seen x) h.code told.0 means.0 in
      let takes = subst (λ y. WrittenIn F y (length h.code)) same told.2 in
      let own = needs.written in
      let lengths = one_whole_length laws (seen x) own.0 takes.0 own.1 takes.1 in
      other (own.2 ∙ (lengths ∙ (sym takes.2 ∙ long))) in
      subst (λ (s : ReaderState). Reads gives eof seen (told_frame f F misfits n) (Err e) old s) (sym stays) (record {
        kept = r.kept;
        answer = inr (record {
          no_fault = r.answer.no_fault;
          kind = inr (kinds.OutOfRangeLength, inl (inr (inl (inr refl))), given);
          because = λ told.
              let un : Undecodable gives eof (coding f (told_frame_code F) (bytes_asking (frame_asks F.asks) n)) e
              old.remaining =
              unaccepted f (told_frame_code F) (bytes_asking_laws (frame_asks F.asks) n) mid.remaining h.code_is
              (r.answer.taken told.tells) nothing (kinds.OutOfRangeLength, inl (inr refl), given) in
              record {
                no_prefix = un.no_prefix;
                too_short = un.too_short;
                malformed = λ _. (kinds.OutOfRangeLength, inr (inl (inr refl)), given);
                wrong_length = λ _. given;
              };
        });
      })

-- the parts that tell the length are read, and then the value
pub with_frame_composes : {N B V : Type 0} (is_told : N → Type 0) (told : N → ℕ) (numbers : B → N) (field : List ℕ)
    (before : Codec B) (value : WholeCodec V) (f : Mode)
    → Composes ((told_codec is_told numbers before).format f)
    (λ b. told_frame f (value.format f) (value.misfits f) (told (numbers b)))
    ((with_frame_codec is_told told numbers field before value).format f) (λ b v. (b, v))
with_frame_composes {B = B} {V = V} is_told told numbers field before value f =
    let c = sequence_composes (λ (p : B × V). p) {join = λ (b : B) (v : V). (b, v)}
    {M = λ b. told_length field (told_frame f (value.format f) (value.misfits f) (told (numbers b)))}
    (λ b. told_frame_asks f (value.format f) (value.misfits f) (told (numbers b))) (λ b v s h. refl) in
    record {
      joins = c.joins;
      splits = c.splits;
      names_first = c.names_first;
      names_second = c.names_second;
      malformed = c.malformed;
      wrong_length = c.wrong_length;
      asks_first = c.asks_first;
      asks_second = c.asks_second;
    }

-- ---- writing

-- what is counted under one mode is under the same
pub counted_at : {E V : Type 0} {gives : Error → E → Type 0} (value : WholeCodec V) {v : V} {result : Result ℕ E}
    {f g : Mode} → f ≡ g → NeedsIn gives (value.format f) v result → NeedsIn gives (value.format g) v result
counted_at {gives = gives} value {v = v} {result = result} same needs =
    subst (λ (h : Mode). NeedsIn gives (value.format h) v result) same needs

-- a value that is counted is written in its frame as it is
pub told_frame_written : {E V : Type 0} {gives : Error → E → Type 0} (value : WholeCodec V) {v : V} {written n : ℕ}
    {result : Result (Unit {0}) E} {old new : WriterState} {appended : List ℕ → Type 0} (field : List ℕ)
    → NeedsIn gives (value.format old.mode) v (Ok written) → written ≡ n
    → Writes gives value.format v result old new appended
    → Writes gives (λ f. told_length field (told_frame f (value.format f) (value.misfits f) n)) v result old new
    appended
unfolding told_frame coding raw_bytes
told_frame_written value {v = v} {written = written} {n = n} {old = old} field needs same w =
    let f = old.mode in
    let F = value.format f in
    let laws = value.laws f in
    let takes = needs.written in
    let counted = counted_below needs in
    let long : length takes.0 ≡ n = sym takes.2 ∙ same in
    Writes-as (λ kind k. inr k)
    (λ b h.
    let is : length b ≡ n = one_whole_length laws v b takes.0 h takes.1 ∙ long in
    record { code = b; code_is = (refl, is); stands = (h, omega arith) })
    (λ b h. (b, subst (F.writes v) h.code_is.0 h.stands.0, refl))
    (λ b h. (h.code, (told_frame_means f laws v h.code h.stands).0))
    w

module _ {N B V : Type 0} (is_told : N → Type 0) (told : N → ℕ) (numbers : B → N) (field : List ℕ)
    (before : Codec B) (value : WholeCodec V) where
  abbrev whole : Codec (B × V)
  whole = with_frame_codec is_told told numbers field before value

  -- a value for which no length is told has no encoding
  pub untold_undecodable : (f : Mode) (b : B) (v : V) → (is_told (numbers b) → ⊥) → (s : List ℕ)
      → ((with_frame_codec is_told told numbers field before value).format f).encodes (b, v) s → ⊥
  unfolding sequence coding
  untold_undecodable f b v untold s h = untold (Accepts-exact_means f.strict _ _ _ _ h.first_is.stands).1

  -- nor has one that is written in no such number of bytes
  other_undecodable : (f : Mode) (b : B) (v : V)
      → (WrittenIn (value.format f) v (told (numbers b)) → told (numbers b) < 2 ^ 64 - 1 → ⊥) → (s : List ℕ)
      → ((with_frame_codec is_told told numbers field before value).format f).encodes (b, v) s → ⊥
  unfolding sequence told_frame coding
  other_undecodable f b v other s h =
      let laws = value.laws f in
      let code = h.second_is.code in
      let means = told_frame_means f laws v code h.second_is.stands in
      let long = raw_length (told (numbers b)) code h.suffix h.second_is.code_is in
      let takes = means.2 in
      let counted = means.1 in
      other (takes.0, takes.1, sym long ∙ takes.2) (omega arith)

  value_refuses : (f : Mode) (b : B) (kind : ErrorKind) → (value.format f).refuses_writing kind
      → ((with_frame_codec is_told told numbers field before value).format f).refuses_writing kind
  unfolding sequence told_frame
  value_refuses f b kind k = inr (b, inr k)

  -- it is refused with a kind of its own where it is written in another number
  pub other_named : {E : Type 0} (gives : Error → E → Type 0) (f : Mode) (b : B) (kind : ErrorKind) {e : E}
      → IsOtherLength field kind → gives (error_of kind) e
      → IsNamed gives ((with_frame_codec is_told told numbers field before value).format f).refuses_writing e
  unfolding sequence
  other_named gives f b kind is given = (kind, inr (b, inl is), given)

  module _ {E : Type 0} {gives : Error → E → Type 0} {b : B} {v : V} {e : E} {old : WriterState}
      {appended : List ℕ → Type 0} where
    -- a value whose bytes cannot be counted is refused as it is
    pub uncounted_refused : {result : Result (Unit {0}) E} → IsErrAnd result (λ x. x ≡ e)
        → NeedsIn gives (value.format old.mode) v (Err e) → appended []
        → Writes gives (with_frame_codec is_told told numbers field before value).format (b, v) result old old appended
    uncounted_refused {result = result} passed needs nothing =
        subst (λ (r : Result (Unit {0}) E). Writes gives whole.format (b, v) r old old appended)
        (passed_on result e passed)
        (undecodable_refused {F = whole.format} (whole.laws old.mode)
        (other_undecodable old.mode b v
        (λ takes counted. let long = takes.2 in needs.answers takes.0 takes.1 (omega arith)))
        (IsOutOfRange-more gives e (value_refuses old.mode b) needs.refused) nothing)

    -- so is one that is written in another number
    pub other_refused : {written : ℕ} → NeedsIn gives (value.format old.mode) v (Ok written)
        → (written ≡ told (numbers b) → ⊥)
        → IsNamed gives ((with_frame_codec is_told told numbers field before value).format old.mode).refuses_writing e
        → appended []
        → Writes gives (with_frame_codec is_told told numbers field before value).format (b, v) (Err e) old old
        appended
    other_refused needs other named nothing =
        undecodable_refused {F = whole.format} (whole.laws old.mode)
        (other_undecodable old.mode b v
        (λ takes counted.
        let own = needs.written in
        other (own.2 ∙ (one_whole_length (value.laws old.mode) v own.0 takes.0 own.1 takes.1 ∙ sym takes.2))))
        (inr named) nothing
