-- What is read from the bytes of a frame makes a read of the frame.
use Rattle.std.specs.Prelude.{◌≡◌, ℕ, zero, suc, List, ◌++◌, length, replicate, Bool, true, false}
use Rattle.std.specs.Prelude.{IsTrue, ◌⊎◌, Result, Ok, Err, IsErrAnd, refl}
use Rattle.std.specs.Borrow.{GName}
use Rattle.std.proofs.Common.{sym, ◌∙◌, ap, subst, arith, inl, inr, lit<}
use Rattle.std.proofs.lemmas.Bool.{true≢false}
use Rattle.std.proofs.lemmas.List.{append_assoc, length-append, length-replicate}
use Rattle.speedy_base.specs.declared.error.ErrorKind.{ErrorKind}
use Rattle.speedy_base.specs.declared.error.ErrorKind.TheVariants as kinds
use Rattle.speedy_base.specs.declared.error.Error.{Error}
use Rattle.speedy_base.specs.Digits.{AreBytes}
use Rattle.speedy_base.specs.DigitsLemmas.{AreBytes-append, AreBytes-append_parts}
use Rattle.speedy_base.specs.Mode.{Mode}
use Rattle.speedy_base.specs.Error.{error_of, is_eof_error, IsNamed, IsNamed-more}
use Rattle.speedy_layout.specs.Codes.{Accepts, MeansNothing, coding, IsDemand, Accepts-is, Accepts-means}
use Rattle.speedy_layout.specs.Format.{Format}
use Rattle.speedy_layout.specs.Frames.{frame, frame_code, frame_asks, raw_asks, wrong_frame, AreCounted}
use Rattle.speedy_layout.specs.Lists.{repeat, vector}
use Rattle.speedy_layout.specs.Numbers.{unsigned_number}
use Rattle.speedy_layout.specs.Owned.{owned_content}
use Rattle.speedy_layout.specs.Sequences.{asks_right, asks_nothing_more, sequence}
use Rattle.speedy_layout.specs.Texts.{raw_bytes, raw_bytes_laws, each_byte, each_byte_is}
use Rattle.speedy_layout.specs.Wholes.{Misfits, WholeLaws}
use Rattle.speedy_read.specs.Buffers.{memory_state}
use Rattle.speedy_read.specs.BehindCounts.{counted_code_composes}
use Rattle.speedy_read.specs.Codes.{Covers, got_covered, unaccepted}
use Rattle.speedy_read.specs.Frames.{filling, Unfilled, FillsFrame, FillsUnlessEnd}
use Rattle.speedy_read.specs.Reading.{ReaderState, Got, IsTold, refusing_kinds, IsEnd, Undecodable, Reads}
use Rattle.speedy_read.specs.ReadingLemmas.{IsTold-part, Reads-passed, part_refused}
use Rattle.speedy_read.specs.Sequences.{Composes}
use Rattle.speedy_read.specs.Wholes.{NotWhole, ReadsWhole}

-- the number of bytes is read, and then a value that fills these
pub frame_composes : {V : Type 0} (f : Mode) (number : Format ℕ) (F : Format V) (misfits : Misfits)
    → Composes number (filling f F misfits)
    (record (frame f number F) { wrong_length = wrong_frame f number F misfits }) (λ n v. v)
unfolding frame coding sequence raw_bytes
frame_composes f number F misfits =
    let coded = counted_code_composes f (frame_code F) number raw_bytes (raw_asks (frame_asks F.asks))
    (λ n u s h. ap length h.0 ∙ h.1) in
    record {
      joins = coded.joins;
      splits = coded.splits;
      names_first = coded.names_first;
      names_second = coded.names_second;
      malformed = coded.malformed;
      wrong_length = λ bytes h.
          elim h [
            | inl (inl x) ↦ inl x
            | inl (inr x) ↦ absurd x.1.second_is
            | inr x ↦
                let none = x.nothing in
                let list = none.code_is in
                inr (
                  length none.code,
                  record {
                    prefix = list.prefix;
                    suffix = list.suffix ++ none.rest;
                    whole_is = none.whole_is
                        ∙ (ap (λ s. s ++ none.rest) list.whole_is ∙ append_assoc list.prefix list.suffix none.rest);
                    first_is = list.first_is;
                    second_is = record {
                      nothing = record {
                        code = none.code;
                        prefix = list.suffix;
                        rest = none.rest;
                        whole_is = refl;
                        code_is = list.second_is;
                        nothing = none.nothing;
                      };
                      misfit = x.misfit;
                    };
                  },
                )
          ];
      asks_first = coded.asks_first;
      asks_second = λ n. asks_right number.asks (frame_asks F.asks);
    }

-- where n bytes are refused, a value that fills them is
pub bytes_cover_filling : {V : Type 0} (f : Mode) (F : Format V) (misfits : Misfits) (n : ℕ)
    → Covers (raw_bytes n) (filling f F misfits n)
unfolding coding raw_bytes
bytes_cover_filling f F misfits n = record {
  under = λ v s h. (h.code, h.code_is);
  names = λ kind h. absurd h;
  malformed = λ bytes are h. elim h [ inl x ↦ inl x | inr x ↦ inr (x.code, x.prefix, x.rest, x.whole_is, x.code_is) ];
  wrong_length = λ bytes are h.
      let x = h.nothing in
      inr (x.code, x.prefix, x.rest, x.whole_is, x.code_is);
  asks = asks_nothing_more;
}

module _ {E V : Type 0} {gives : Error → E → Type 0} {eof : E → Bool} {F : Format V} {misfits : Misfits} {lends : Bool}
    {targets : List GName} {bytes : List ℕ} {f : Mode} where
  -- a refusal of the bytes of a frame, in which an end of them became a length that is wrong
  unfilled_as : ((error : Error) (e : E) → gives error e → eof e ≡ is_eof_error error) → (e x : E)
      → ((x ≡ e) × (eof e ≡ false)) ⊎ (gives (error_of kinds.OutOfRangeLength) x × (eof e ≡ true))
      → (gives (error_of kinds.OutOfMemory) e × IsTrue F.asks.memory)
      ⊎ NotWhole gives eof F misfits e (memory_state lends targets bytes f)
      → (gives (error_of kinds.OutOfMemory) x × IsTrue F.asks.memory) ⊎ Unfilled gives F misfits lends x bytes
  unfilled_as keeps_eof e x (inl same) (inl want) =
      inl (subst (gives (error_of kinds.OutOfMemory)) (sym same.0) want.0, want.1)
  unfilled_as keeps_eof e x (inr ended) (inl want) = absurd (true≢false (sym ended.1 ∙ keeps_eof _ e want.0))
  unfilled_as keeps_eof e x judged (inr refused) = inr (record {
    kind = named judged refused.kind;
    because = λ are fit lent.
        refused.because (record { tells = refl; are_bytes = are; fit = fit; lends = lent });
    misfit = λ are fit lent h.
        wrong judged refused (record { tells = refl; are_bytes = are; fit = fit; lends = lent }) h;
  }) where
    wrong : ((x ≡ e) × (eof e ≡ false)) ⊎ (gives (error_of kinds.OutOfRangeLength) x × (eof e ≡ true))
        → NotWhole gives eof F misfits e (memory_state lends targets bytes f)
        → IsTold F (memory_state lends targets bytes f) → misfits.too_many bytes ⊎ misfits.too_few bytes
        → gives (error_of kinds.OutOfRangeLength) x
    wrong (inr ended) not told h = ended.0
    wrong (inl same) not told (inl many) =
        subst (gives (error_of kinds.OutOfRangeLength)) (sym same.0) (not.too_many told many)
    wrong (inl same) not told (inr few) = absurd (true≢false (sym (not.too_few told few) ∙ same.1))

    named : ((x ≡ e) × (eof e ≡ false)) ⊎ (gives (error_of kinds.OutOfRangeLength) x × (eof e ≡ true))
        → IsEnd gives eof false e
        ⊎ IsNamed gives (λ kind. refusing_kinds F lends kind ⊎ (kind ≡ kinds.OutOfRangeLength)) e
        → IsNamed gives (λ kind. refusing_kinds F lends kind ⊎ (kind ≡ kinds.OutOfRangeLength)) x
    named (inr ended) _ = (kinds.OutOfRangeLength, inr refl, ended.0)
    named (inl same) (inl end) = absurd (true≢false (sym end.1 ∙ same.1))
    named (inl same) (inr kind) = (kind.0, kind.1, subst (gives (error_of kind.0)) (sym same.0) kind.2)

  -- what is answered of the bytes of a frame
  pub filled : {A : Type 0} {seen : A → V} {new : ReaderState}
      → ((error : Error) (e : E) → gives error e → eof e ≡ is_eof_error error) → AreCounted bytes
      → (read result : Result A E) → FillsUnlessEnd gives eof read result
      → ReadsWhole gives eof seen F misfits read (memory_state lends targets bytes f) new
      → FillsFrame gives seen F misfits lends result bytes
  filled keeps_eof fit (Ok x) (Ok y) judged r = (rw judged r.answer, fit)
  filled keeps_eof fit (Ok x) (Err e) judged r = absurd judged
  filled keeps_eof fit (Err e) (Ok y) judged r = absurd judged
  filled keeps_eof fit (Err e) (Err x) judged r = unfilled_as keeps_eof e x judged r.answer

-- ---- a frame that is read

-- what is refused that does not fill its frame is named
unfilled_named : {V : Type 0} (F : Format V) (lends : Bool) (kind : ErrorKind)
    → (IsTrue F.asks.lending → IsTrue lends) → refusing_kinds F lends kind ⊎ (kind ≡ kinds.OutOfRangeLength)
    → F.names kind ⊎ (kind ≡ kinds.OutOfRangeLength)
unfilled_named F lends kind lent (inl (inl h)) = inl h
unfilled_named F lends kind lent (inl (inr h)) = absurd (true≢false (sym (lent h.0) ∙ h.1))
unfilled_named F lends kind lent (inr h) = inr h

-- and of a kind that a read of the frame is refused with
unfilled_refused : {V : Type 0} (f : Mode) (F : Format V) (misfits : Misfits) (n : ℕ) (lends outer : Bool)
    → (lends ≡ false → outer ≡ false) → (kind : ErrorKind)
    → refusing_kinds F lends kind ⊎ (kind ≡ kinds.OutOfRangeLength) → refusing_kinds (filling f F misfits n) outer kind
unfolding coding
unfilled_refused f F misfits n lends outer same kind (inl (inl h)) = inl (inr (inl (inl h)))
unfilled_refused f F misfits n lends outer same kind (inl (inr h)) = inr (h.0, same h.1, h.2)
unfilled_refused f F misfits n lends outer same kind (inr h) = inl (inr (inl (inr h)))

-- where one reader lends whenever another does
lends_too : (lends outer : Bool) → (lends ≡ false → outer ≡ false) → IsTrue outer → IsTrue lends
lends_too true outer same h = refl
lends_too false outer same h = absurd (true≢false (sym h ∙ same refl))

-- the bytes of the frame were read, and no value fills them
unfilled_read : {E V : Type 0} {gives : Error → E → Type 0} {eof : E → Bool} (f : Mode) {F : Format V}
    → WholeLaws f.strict F → (n : ℕ) {lends : Bool} {old new : ReaderState}
    → (lends ≡ false → old.fixed.lends ≡ false) → {e : E} {bytes : List ℕ} → Got ((raw_bytes n).encodes bytes) old new
    → {misfits : Misfits} → Unfilled gives F misfits lends e bytes → IsTold (filling f F misfits n) old
    → Undecodable gives eof (filling f F misfits n) e old.remaining
unfolding coding raw_bytes
unfilled_read {gives = gives} {eof = eof} f {F = F} laws n {lends = lends} {old = old} {new = new} same {e = e}
    {bytes = bytes} got {misfits = misfits} unfilled told =
    let lent : IsTrue F.asks.lending → IsTrue lends =
    λ need. lends_too lends old.fixed.lends same (told.lends need) in
    let taken = got.taken told.tells in
    let are = subst AreBytes (sym got.prefix_is.0)
    (AreBytes-append_parts got.prefix new.remaining (subst AreBytes taken told.are_bytes)).0 in
    let joined = ap length taken ∙ length-append got.prefix new.remaining in
    let whole = ap length got.prefix_is.0 in
    let fit = told.fit in
    let named : IsNamed gives (λ kind. (frame_code F).refusals kind ⊎ IsDemand f.strict (frame_code F) kind) e =
    (unfilled.kind.0, inl (unfilled_named F lends unfilled.kind.0 lent unfilled.kind.1), unfilled.kind.2) in
    let un : Undecodable gives eof (coding f (frame_code F) (raw_bytes n)) e old.remaining =
    unaccepted f (frame_code F) (raw_bytes_laws n) new.remaining got.prefix_is taken
    (λ v h. unfilled.because are (omega arith) lent v
    (Accepts-means f.strict (frame_code F) bytes v (λ k. (laws.written_encodes v bytes k.0, k.1)) h).0) named in
    record {
      no_prefix = un.no_prefix;
      too_short = un.too_short;
      malformed = un.malformed;
      wrong_length = λ wrong.
          let none = wrong.nothing in
          let own = (raw_bytes_laws {strict = f.strict} n).decodes bytes none.code got.prefix none.prefix new.remaining
          none.rest got.prefix_is none.code_is (sym taken ∙ none.whole_is) in
          unfilled.misfit are (omega arith) lent
          (subst (λ b. misfits.too_many b ⊎ misfits.too_few b) (sym own.0) wrong.misfit);
    }

module _ {E A B V : Type 0} {gives : Error → E → Type 0} {eof : E → Bool} {shown : A → List ℕ} {x : A} {seen : B → V}
    (f : Mode) {F : Format V} (misfits : Misfits) (laws : WholeLaws f.strict F) (n : ℕ) {lends : Bool}
    {old new : ReaderState} (same : lends ≡ false → old.fixed.lends ≡ false) where
  -- the bytes of the frame were read, and then a value that fills them or none
  pub filling_read : (result : Result B E) → Reads gives eof shown (raw_bytes n) (Ok x) old new
      → FillsFrame gives seen F misfits lends result (shown x)
      → Reads gives eof seen (filling f F misfits n) result old new
  unfolding coding
  filling_read (Ok y) r fills =
      got_covered (λ s h. record {
        code = shown x;
        code_is = h;
        stands = Accepts-is f.strict (frame_code F) (shown x) (seen y) fills
            (λ strict. (laws.written_alone strict (seen y) (shown x) fills.0, fills.1));
      }) r
  filling_read (Err e) r (inl want) = record {
    kept = r.kept;
    answer = inl (inl (want.0, inl refl, r.answer.no_fault));
  }
  filling_read (Err e) r (inr unfilled) = record {
    kept = r.kept;
    answer = inr (record {
      no_fault = r.answer.no_fault;
      kind = inr (IsNamed-more gives e (unfilled_refused f F misfits n lends old.fixed.lends same) unfilled.kind);
      because = unfilled_read f laws n same r.answer unfilled;
    });
  }

-- a value is read from the bytes of a frame, under the context of the reader that they were read from
pub frame_filled : {E A B V : Type 0} {gives : Error → E → Type 0} {eof : E → Bool} {shown : A → List ℕ} {x : A}
    {seen : B → V} (F : Mode → Format V) (misfits : Mode → Misfits) → ((f : Mode) → WholeLaws f.strict (F f)) → (n : ℕ)
    {lends : Bool} {result : Result B E} {old mid new : ReaderState} {lent : Mode}
    → (lends ≡ false → old.fixed.lends ≡ false) → Reads gives eof shown (raw_bytes n) (Ok x) old mid
    → lent ≡ mid.mode → new ≡ mid → FillsFrame gives seen (F lent) (misfits lent) lends result (shown x)
    → Reads gives eof seen (filling old.mode (F old.mode) (misfits old.mode) n) result old new
frame_filled {gives = gives} {eof = eof} {shown = shown} {x = x} {seen = seen} F misfits laws n {lends = lends}
    {result = result} {old = old} same r own is fills =
    subst (λ (s : ReaderState). Reads gives eof seen (filling old.mode (F old.mode) (misfits old.mode) n) result old s)
    (sym is)
    (filling_read old.mode (misfits old.mode) (laws old.mode) n same result r
    (subst (λ (f : Mode). FillsFrame gives seen (F f) (misfits f) lends result (shown x)) (own ∙ r.kept.mode) fills))

-- ---- bytes of a vector

-- numbers of one digit that were read are bytes
pub bytes_of_vector : {E A B : Type 0} {gives : Error → E → Type 0} {eof : E → Bool} {seen : A → List ℕ}
    {shown : B → List ℕ} {x : A} {y : B} (n : ℕ) (mode : Mode) {old new : ReaderState} → shown y ≡ seen x
    → Reads gives eof seen (vector n (unsigned_number 1 mode)) (Ok x) old new
    → Reads gives eof shown (raw_bytes n) (Ok y) old new
unfolding vector owned_content repeat unsigned_number raw_bytes
bytes_of_vector {seen = seen} {x = x} n mode same r =
    got_covered (λ s h. let is = each_byte_is mode.order (seen x) s h.1 in (same ∙ is, ap length (sym is) ∙ h.0)) r

-- as many bytes are numbers
as_numbers : (n : ℕ) (mode : Mode) (bytes : List ℕ) → AreBytes bytes → length bytes ≡ n
    → (vector n (unsigned_number 1 mode)).encodes bytes bytes
unfolding vector owned_content repeat unsigned_number
as_numbers n mode bytes are long = (long, each_byte mode.order bytes are)

names_none : (n : ℕ) (mode : Mode) (kind : ErrorKind) → (vector n (unsigned_number 1 mode)).names kind → ⊥
unfolding vector owned_content repeat unsigned_number
names_none n mode kind h = absurd h

lends_none : (n : ℕ) (mode : Mode) → (vector n (unsigned_number 1 mode)).asks.lending ≡ false
unfolding vector owned_content repeat unsigned_number
lends_none n mode = refl

AreBytes-zeros : (n : ℕ) → AreBytes (replicate n 0)
AreBytes-zeros zero = tt
AreBytes-zeros (suc n) = (lit< tt, AreBytes-zeros n)

-- where n numbers of one digit are refused, a value that fills n bytes is
vector_undecodable : {E V : Type 0} {gives : Error → E → Type 0} {eof : E → Bool} (f : Mode) (F : Format V)
    (misfits : Misfits) (n : ℕ) {e : E} {bytes : List ℕ} → AreBytes bytes
    → Undecodable gives eof (vector n (unsigned_number 1 f)) e bytes
    → Undecodable gives eof (filling f F misfits n) e bytes
unfolding coding raw_bytes
vector_undecodable f F misfits n {e = e} {bytes = bytes} are un = record {
  no_prefix = no_prefix;
  too_short = λ v more h.
      let long = length-append bytes more in
      let whole = ap length h.code_is.0 ∙ h.code_is.1 in
      let same = ap length h.code_is.0 in
      let zeros = replicate (length more) 0 in
      let all = length-append bytes zeros in
      let count = length-replicate {A = ℕ} (length more) 0 in
      un.too_short (bytes ++ zeros) zeros
      (as_numbers n f (bytes ++ zeros) (AreBytes-append bytes zeros are (AreBytes-zeros (length more)))
      (omega (arith, h.code_is.1)));
  malformed = λ bad.
      elim bad [
        | inl x ↦ absurd x
        | inr x ↦ absurd (none_code x)
      ];
  wrong_length = λ wrong. absurd (none_code wrong.nothing);
} where
  none_code : MeansNothing (raw_bytes n).encodes (Accepts f.strict (frame_code F)) bytes → ⊥
  none_code x =
      un.no_prefix x.prefix x.prefix x.rest x.whole_is
      (as_numbers n f x.prefix (AreBytes-append_parts x.prefix x.rest (subst AreBytes x.whole_is are)).0 x.code_is.1)

  no_prefix : (v : _) (prefix rest : List ℕ) → bytes ≡ prefix ++ rest → (filling f F misfits n).encodes v prefix → ⊥
  no_prefix v prefix rest is h =
      un.no_prefix prefix prefix rest is
      (as_numbers n f prefix (AreBytes-append_parts prefix rest (subst AreBytes is are)).0 h.code_is.1)

pub vector_refused : {E A B V : Type 0} {gives : Error → E → Type 0} {eof : E → Bool} {seen : A → List ℕ}
    {seen' : B → V} (f : Mode) (F : Format V) (misfits : Misfits) (n : ℕ) {e : E} {result : Result B E}
    {old new : ReaderState}
    → IsErrAnd result (λ x. x ≡ e) → Reads gives eof seen (vector n (unsigned_number 1 f)) (Err e) old new
    → Reads gives eof seen' (filling f F misfits n) result old new
vector_refused f F misfits n {new = new} passed r =
    Reads-passed passed (record {
      kept = r.kept;
      answer = part_refused new refl refl (λ _. refl) (λ t. absurd (true≢false (sym t ∙ lends_none n f)))
          (λ kind h. absurd (names_none n f kind h))
          (λ told because. vector_undecodable f F misfits n told.are_bytes
          (because (IsTold-part (λ t. absurd (true≢false (sym t ∙ lends_none n f))) told))) r.answer;
    })

-- ---- a reader whose context was lent

-- a reader that has its context back, with the mode that this had, is seen as it was
pub context_back : {R C : Type 0} {state : R → ReaderState} (with_context : R → C → R) (at : R → C)
    (mode : C → Mode) → ((r : R) → (state r).mode ≡ mode (at r))
    → ((r : R) (c : C) → state (with_context r c) ≡ record (state r) { mode = mode c })
    → (r after : R) (lent c : C) → lent ≡ at r → mode c ≡ mode lent → after ≡ with_context r c
    → state after ≡ state r
context_back {state = state} with_context at mode mode_at state_with r after lent c value kept is =
    ap state is
    ∙ (state_with r c
    ∙ ap (λ e. record (state r) { mode = e }) (kept ∙ (ap mode value ∙ sym (mode_at r))))
