-- What was written is what is read, by the laws of the layout.
use Rattle.std.specs.Prelude.{◌≡◌, ℕ, ◌+◌, ◌*◌, ◌≤◌, List, [], ◌∷◌, ◌++◌, length, Bool, false, IsTrue, ◌⊎◌, Result, Ok}
use Rattle.std.specs.Prelude.{Err, refl}
use Rattle.std.proofs.Common.{sym, ◌∙◌, ap, subst, arith, inl, inr}
use Rattle.std.proofs.lemmas.Bool.{true≢false}
use Rattle.std.proofs.lemmas.List.{length-append, append-nil}
use Rattle.speedy_base.specs.declared.error.Error.{Error}
use Rattle.speedy_base.specs.declared.error.ErrorKind.TheVariants as kinds
use Rattle.speedy_base.specs.Error.{error_of, Errors, IsNamed}
use Rattle.speedy_base.specs.Device.{SourceState}
use Rattle.speedy_base.specs.DigitsLemmas.{AreBytes-slice}
use Rattle.speedy_base.specs.Mode.{Mode}
use Rattle.speedy_layout.specs.Codecs.{Codec}
use Rattle.speedy_layout.specs.Format.{Format}
use Rattle.speedy_layout.specs.Laws.{Laws}
use Rattle.speedy_layout.specs.Lists.{repeat, vector, vector_laws}
use Rattle.speedy_layout.specs.Owned.{owned_content}
use Rattle.speedy_read.specs.Buffers.{bytes_state}
use Rattle.speedy_read.specs.Reading.{ReaderState, IsTold, refusing_kinds, Excused, Refused, Reads}
use Rattle.speedy_read.specs.WaysOfReading.{RefusesBufferIf, AnswersBufferIf, AnswersStreamIn}
use Rattle.speedy_read.specs.RoundTrip.{AnswersWritten, ReadsWritten, ReadsWrittenFirst, StreamsWritten}
use Rattle.speedy_read.specs.RoundTrip.{WrittenIsAnswered, WrittenIsRead, WrittenIsStreamed, WrittenItemsAreRead}
use Rattle.speedy_read.specs.StreamModel.{most_held}

-- an unbuffered read leaves nothing that was read ahead
nothing_ahead : (ahead : List ℕ) → length ahead ≤ most_held false → ahead ≡ []
nothing_ahead [] few = refl
nothing_ahead (x ∷ ahead) few = absurd (omega arith)

module _ {E A V : Type 0} (gives : Error → E → Type 0) (eof : E → Bool) (seen : A → V) (least : ℕ) where
  module _ (L : Format V) {strict : Bool} (laws : Laws strict least L) (v : V) (bytes rest : List ℕ)
      (written : L.writes v bytes) where
    prefix_answered : (result : Result A E) (count : ℕ) (buffer : List ℕ) → buffer ≡ bytes ++ rest
        → AnswersBufferIf gives eof (Unit {0}) L.names seen least L result count buffer
        → AnswersWritten gives seen L v (length bytes) result count
    prefix_answered (Ok x) count buffer e a =
        let k = a.value in
        let one : (seen x ≡ v) × (k.prefix ≡ bytes) × (k.rest ≡ rest) =
        laws.decodes (seen x) v k.prefix bytes k.rest rest k.prefix_is (laws.written_encodes v bytes written)
        (sym k.whole_is ∙ e) in
        record { same = one.0; counted = k.count_is ∙ ap length one.1; refused = tt; asks_memory = tt }
    prefix_answered (Err x) count buffer e a =
        let size = laws.least_size v bytes (laws.written_encodes v bytes written) in
        let l : length buffer ≡ length bytes + length rest = ap length e ∙ length-append bytes rest in
        let want = refusal (a.refused (omega arith)) in
        record { same = tt; counted = tt; refused = want.0; asks_memory = want.1 } where
          refusal : (gives (error_of kinds.OutOfMemory) x × IsTrue L.asks.memory)
              ⊎ RefusesBufferIf gives eof (Unit {0}) L.names L x buffer → gives (error_of kinds.OutOfMemory) x
              × IsTrue L.asks.memory
          refusal (inl m) = m
          refusal (inr r) = absurd ((r.because tt).no_prefix v bytes rest e (laws.written_encodes v bytes written))

    read_back : (result : Result A E) (old new : ReaderState) → IsTrue old.fixed.tells → old.remaining ≡ bytes ++ rest
        → Reads gives eof seen L result old new → ReadsWritten gives seen L v rest result old new
    read_back (Ok x) old new told e a =
        let k = a.answer in
        let one : (seen x ≡ v) × (k.prefix ≡ bytes) × (new.remaining ≡ rest) =
        laws.decodes (seen x) v k.prefix bytes new.remaining rest k.prefix_is (laws.written_encodes v bytes written)
        (sym (k.taken told) ∙ e) in
        record { same = one.0; rest_is = one.2; refused = λ _. tt }
    read_back (Err x) old new told e a =
        record { same = tt; rest_is = tt; refused = λ known. refusal known a.answer } where
          refusal : IsTold L old → Excused gives L.asks.memory x old new ⊎ Refused gives eof L x old new
              → Excused gives L.asks.memory x old new
          refusal known (inl m) = m
          refusal known (inr r) =
              absurd ((r.because known).no_prefix v bytes rest e (laws.written_encodes v bytes written))

    -- a reader of bytes in memory has no failed calls
    first_read : (result : Result A E) (old : ReaderState) (buffer left : List ℕ) (at after : Mode)
        → old ≡ bytes_state buffer at → ReadsWritten gives seen L v rest result old (bytes_state left after)
        → ReadsWrittenFirst gives seen v rest buffer result left
    first_read (Ok x) old buffer left at after s r = record { same = r.same; rest_is = r.rest_is; refused = λ _ _. tt }
    first_read (Err x) old buffer left at after s r = record {
      same = tt;
      rest_is = tt;
      refused = λ bytes fit. want (r.refused (subst (IsTold L) (sym s) (record {
        tells = refl;
        are_bytes = AreBytes-slice buffer bytes;
        fit = fit;
        lends = λ _. refl;
      })));
    } where
      want : Excused gives L.asks.memory x old (bytes_state left after) → gives (error_of kinds.OutOfMemory) x
      want (inl h) = h.0
      want (inr h) =
          let none : old.faults.count ≡ 0 = ap (λ (s : ReaderState). s.faults.count) s in
          elim h.0 [ inl k ↦ absurd (omega (arith, none)) | inr k ↦ absurd (omega arith) ]

    streamed : (buffers : Bool) (result : Result A E) (old new : SourceState) → IsTrue old.tells
        → old.remaining ≡ bytes ++ rest → AnswersStreamIn gives eof seen L buffers result old new
        → StreamsWritten gives seen L v buffers rest result old new
    streamed buffers (Ok x) old new told e a =
        let k = a.value in
        let one : (seen x ≡ v) × (k.prefix ≡ bytes) × (k.ahead ++ new.remaining ≡ rest) =
        laws.decodes (seen x) v k.prefix bytes (k.ahead ++ new.remaining) rest k.prefix_is
        (laws.written_encodes v bytes written) (sym (k.taken told) ∙ e) in
        record {
          same = one.0;
          rest_is = λ unbuffered.
              let few : length k.ahead ≤ most_held false =
              subst (λ (b : Bool). length k.ahead ≤ most_held b) unbuffered k.at_most in
              ap (λ (l : List ℕ). l ++ new.remaining) (sym (nothing_ahead k.ahead few)) ∙ one.2;
          ahead = (k.ahead, k.at_most, sym one.2);
          no_fault = k.no_fault;
          refused = λ _ _ _. tt;
        }
    streamed buffers (Err x) old new told e a = record {
      same = tt;
      rest_is = tt;
      ahead = tt;
      no_fault = tt;
      refused = λ are fit lends.
          elim a.refused [
            | inl want ↦ inl want
            | inr (inl failed) ↦ inr failed
            | inr (inr h) ↦
                absurd ((h.because told are fit lends).no_prefix v bytes rest e (laws.written_encodes v bytes written))
          ];
    }

module _ {E A V : Type 0} (errors : Errors E) (seen : A → V) where
  module _ (codec : Codec V) where
    -- those of the functions over sources
    pub written_is_streamed : WrittenIsStreamed errors seen codec
    written_is_streamed mode v bytes rest buffers result old new h told e a =
        streamed errors.from_gives errors.eof seen codec.least (codec.format mode)
        (codec.laws mode) v bytes rest h
        buffers result old new told e a

    -- the laws of the functions over buffers follow from those of the layout
    pub written_is_answered : WrittenIsAnswered errors seen codec
    written_is_answered = record {
      prefix = λ {mode} {v} {bytes} rest {buffer} {result} {count} h e a.
          prefix_answered errors.from_gives errors.eof seen codec.least (codec.format mode) (codec.laws mode)
          v bytes rest h result count buffer e a;
      whole = λ {mode} {v} {bytes} {buffer} {result} {count} h e a.
          prefix_answered errors.from_gives errors.eof seen codec.least (codec.format mode) (codec.laws mode)
          v bytes [] h result count buffer (e ∙ sym (append-nil bytes)) a;
    }

  module _ (least : ℕ) (format : Mode → Format V)
      (laws : (mode : Mode) → Laws mode.strict least (format mode)) where
    -- and so do those of reads
    pub written_is_read : WrittenIsRead errors seen format
    written_is_read =
        let gives = errors.from_gives in
        let eof = errors.eof in
        let reads : (mode : Mode) (v : V) (bytes rest : List ℕ) (result : Result A E) (old new : ReaderState)
        → (format mode).writes v bytes → IsTrue old.fixed.tells → old.mode ≡ mode
        → old.remaining ≡ bytes ++ rest → Reads gives eof seen (format old.mode) result old new
        → ReadsWritten gives seen (format mode) v rest result old new =
        λ mode v bytes rest result old new h told f e a.
        read_back gives eof seen least (format mode) (laws mode) v bytes rest h result old new told e
        (subst (λ (f : Mode). Reads gives eof seen (format f) result old new) f a) in
        record {
          told = λ {mode} {v} {bytes} {rest} {result} {old} {new} h t f e a.
              reads mode v bytes rest result old new h t f e a;
          made = λ {mode} {at} {after} {v} {bytes} {rest} {buffer} {left} {result} {old} h e s f a.
              let read = reads mode v bytes rest result old (bytes_state left after) h (ap (λ x. x.fixed.tells) s)
              (ap (λ x. x.mode) s ∙ f) (ap (λ x. x.remaining) s ∙ e) a in
              first_read gives eof seen least (format mode) (laws mode) v bytes rest h result old buffer left
              at after s read;
        }

module _ {E A V : Type 0} (errors : Errors E) (seen : A → List V) (least : ℕ) (format : Mode → Format V)
    (laws : (mode : Mode) → Laws mode.strict least (format mode)) where
  -- items are read as a vector is
  pub written_items_are_read : WrittenItemsAreRead errors seen format
  unfolding vector owned_content repeat
  written_items_are_read =
      let vectors : (n : ℕ) → WrittenIsRead errors seen (λ mode. vector n (format mode)) =
      λ n. written_is_read errors seen (n * least) (λ mode. vector n (format mode))
      (λ mode. vector_laws (laws mode) n) in
      record {
        told = λ {mode} {vs} bytes {rest} {n} h l t f e a. (vectors n).told (sym l, h) t f e a;
        made = λ {mode} {at} {after} {vs} bytes {rest} {buffer} {left} {n} h l e s f a.
            (vectors n).made (sym l, h) e s f a;
      }

-- what borrows nothing is refused with a kind that it names
owned_kind : {E V : Type 0} (gives : Error → E → Type 0) {e : E} (L : Format V) {lends : Bool}
    → L.asks.lending ≡ false → IsNamed gives (refusing_kinds L lends) e
    → IsNamed gives L.names e
owned_kind gives L none (kind, inl named, given) = (kind, named, given)
owned_kind gives L none (kind, inr unlent, given) = absurd (true≢false (sym unlent.0 ∙ none))

-- what borrows nothing is answered alike from bytes that are lent and from bytes that are not
pub copied_alike : {E A V : Type 0} {gives : Error → E → Type 0} {eof : E → Bool} {seen : A → V} {least : ℕ}
    {L : Format V} {result : Result A E} {count : ℕ} {bytes : List ℕ} → L.asks.lending ≡ false
    → AnswersBufferIf gives eof (L.asks.lending ≡ false) (refusing_kinds L false) seen least L result count bytes
    → AnswersBufferIf gives eof (Unit {0}) L.names seen least L result count bytes
copied_alike {result = Ok x} none a =
    record { within = a.within; too_small = a.too_small; value = a.value; refused = λ _. tt }
copied_alike {gives = gives} {L = L} {result = Err e} none a = record {
  within = a.within;
  too_small = a.too_small;
  value = tt;
  refused = λ l. elim (a.refused l) [
    | inl m ↦ inl m
    | inr x
        ↦ inr (record {
          kind = elim x.kind [ inl k ↦ inl k | inr k ↦ inr (owned_kind gives L none k) ];
          because = λ _. x.because none;
        })
  ];
}
