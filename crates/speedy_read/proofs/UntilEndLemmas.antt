-- Reads of items one after another make reads until the bytes end.
use Rattle.std.specs.Prelude.{◌≡◌, ℕ, ◌+◌, ◌≤◌, List, [], ◌∷◌, ◌++◌, length, map, Bool, true, false, IsTrue, ◌⊎◌}
use Rattle.std.specs.Prelude.{Option, Some, None, MatchOption, Result, Ok, Err, IsErrAnd, refl}
use Rattle.std.proofs.Common.{sym, ◌∙◌, ap, subst, arith, inl, inr}
use Rattle.std.proofs.lemmas.List.{map-append}
use Rattle.speedy_base.specs.declared.error.ErrorKind.{ErrorKind}
use Rattle.speedy_base.specs.declared.error.ErrorKind.TheVariants as kinds
use Rattle.speedy_base.specs.declared.error.Error.{Error}
use Rattle.speedy_base.specs.Error.{error_of, is_eof_error, passed_on, IsNamed}
use Rattle.speedy_layout.specs.Format.{Format, Each, IsOwnKind}
use Rattle.speedy_layout.specs.Laws.{Laws}
use Rattle.speedy_read.specs.Reading.{ReaderKind, ReaderState, refusing_kinds, Excused, Refused, Reads}
use Rattle.speedy_read.specs.ReadingLemmas.{Kept-after, IsTold-after, excused_after, ReadSoFar, none_so_far}
use Rattle.speedy_read.specs.UntilEnd.{Begin, Ended, ReadsUntilEnd}
use Rattle.speedy_read.proofs.CollectionLemmas.{length_pushed}
use Rattle.speedy_read.proofs.ListLemmas.{item_more}

-- what holds where a value is absent
pub where_none : {A P : Type 0} (Q : A → Type 0) (next : Option A) → ((x : A) → next ≡ Some x → ⊥)
    → MatchOption next P Q → P
where_none Q (Some x) none h = absurd (none x refl)
where_none Q None none h = h

-- from old to mid n items were read, and gather to the whole
pub record ItemsSoFar {T F V : Type 0} (seen : T → V) (gathers : List T → F → Type 0) (L : Format V) (n : ℕ) (whole : F)
    (old mid : ReaderState) : Type 0 where
  pub items : List T
  pub count_is : length items ≡ n
  pub gathered : gathers items whole
  pub so_far : ReadSoFar (Each L.encodes (map seen items)) old mid

-- an error of a kind of a type's own is no end
own_is_no_end : (kind : ErrorKind) → IsOwnKind kind → is_eof_error (error_of kind) ≡ false
own_is_no_end kinds.UnexpectedEndOfInput h = absurd h
own_is_no_end kinds.UnexpectedEndOfOutputBuffer h = absurd h
own_is_no_end (kinds.InputBufferIsTooSmall a b) h = absurd h
own_is_no_end (kinds.OutputBufferIsTooSmall a b) h = absurd h
own_is_no_end (kinds.IoError e) h = absurd h
own_is_no_end kinds.OutOfMemory h = absurd h
own_is_no_end kinds.InvalidChar h = refl
own_is_no_end kinds.InvalidEnumVariant h = refl
own_is_no_end kinds.InvalidUtf8 h = refl
own_is_no_end kinds.InvalidSystemTime h = refl
own_is_no_end kinds.ZeroNonZero h = refl
own_is_no_end kinds.OutOfRangeLength h = refl
own_is_no_end kinds.OutOfRangeUsize h = refl
own_is_no_end (kinds.LengthIsNotTheSameAsLengthAttribute field) h = refl
own_is_no_end (kinds.ExpectedConstant constant) h = refl
own_is_no_end kinds.Unsized h = refl
own_is_no_end kinds.EndiannessMismatch h = refl
own_is_no_end kinds.NotWrittenForm h = refl
own_is_no_end (kinds.Custom text) h = refl

module _ {T F V : Type 0} {seen : T → V} {gathers : List T → F → Type 0} {L : Format V} {old : ReaderState} where
  pub no_items : {n : ℕ} {whole : F} → n ≡ 0 → gathers [] whole → ItemsSoFar seen gathers L n whole old old
  no_items none h = record { items = []; count_is = sym none; gathered = h; so_far = none_so_far refl }

  module _ {n : ℕ} {whole : F} {mid : ReaderState} (h : ItemsSoFar seen gathers L n whole old mid) where
    abbrev begins : Begin L (map seen h.items) old
    begins = record {
      prefix = h.so_far.got.prefix;
      rest = mid.remaining;
      prefix_is = h.so_far.got.prefix_is;
      stands = h.so_far.got.taken;
    }

    module _ {E : Type 0} {gives : Error → E → Type 0} {eof : E → Bool} {new : ReaderState} where
      next_read : {x : T} → Reads gives eof seen L (Ok x) mid new
          → ReadSoFar (Each L.encodes (map seen (h.items ++ x ∷ []))) old new
      next_read {x = x} r = item_more L (map seen h.items) h.so_far r (map-append seen h.items (x ∷ []))

      -- an item more was read and added
      pub one_item_more : {x : T} {next : F} (m : ℕ) → n + 1 ≡ m → Reads gives eof seen L (Ok x) mid new
          → gathers (h.items ++ x ∷ []) next → ItemsSoFar seen gathers L m next old new
      one_item_more {x = x} m is r gathered = record {
        items = h.items ++ x ∷ [];
        count_is = length_pushed h.items x n h.count_is ∙ is;
        gathered = gathered;
        so_far = next_read r;
      }

      module _ {greatest : ℕ} where
        -- one is there that is not allowed
        pub one_too_many : {x : T} {e : E} → n ≡ greatest → Reads gives eof seen L (Ok x) mid new
            → gives (error_of kinds.OutOfRangeLength) e
            → ReadsUntilEnd gives eof seen gathers L greatest (Err e) old new
        one_too_many {x = x} all r given =
            let read = next_read r in
            record {
              kept = read.kept;
              answer = inr (inl (record {
                items = h.items ++ x ∷ [];
                more = length_pushed h.items x n h.count_is ∙ ap (λ m. m + 1) all;
                begin = record {
                  prefix = read.got.prefix;
                  rest = new.remaining;
                  prefix_is = read.got.prefix_is;
                  stands = read.got.taken;
                };
                no_fault = read.got.no_fault;
                kind = given;
              }));
            }

        -- no memory is there for it
        pub no_room : {x : T} {e : E} → Reads gives eof seen L (Ok x) mid new → gives (error_of kinds.OutOfMemory) e
            → ReadsUntilEnd gives eof seen gathers L greatest (Err e) old new
        no_room r given =
            let read = next_read r in
            record { kept = read.kept; answer = inl (inl (given, inl refl, read.got.no_fault)) }

        module _ (within : n ≤ greatest) where
          -- it is refused, and that is no end
          pub item_refused : {e : E} {result : Result F E} → IsErrAnd result (λ x. x ≡ e) → eof e ≡ false
              → Reads gives eof seen L (Err e) mid new → ReadsUntilEnd gives eof seen gathers L greatest result old new
          item_refused {e = e} {result = result} passed no_end r =
              subst (λ (x : Result F E). ReadsUntilEnd gives eof seen gathers L greatest x old new)
              (passed_on result e passed)
              (record {
                kept = Kept-after h.so_far.kept r.kept;
                answer = elim r.answer [
                  | inl x ↦
                      inl (excused_after gives L.asks.memory true e old mid new h.so_far.kept.fixed
                      h.so_far.got.no_fault (λ _. refl) x)
                  | inr x ↦ inr (inr (record {
                    items = h.items;
                    at_most = let l = h.count_is in omega arith;
                    begin = begins;
                    no_fault = x.no_fault ∙ h.so_far.got.no_fault;
                    no_end = no_end;
                    kind =
                        let lent = ap (λ (kind : ReaderKind). kind.lends) h.so_far.kept.fixed in
                        elim x.kind [
                          | inl k ↦ (let ended = k.1 in absurd (cc))
                          | inr k ↦ subst (λ (lends : Bool). IsNamed gives (refusing_kinds L lends) e) lent k
                        ];
                    because = λ told. x.because (IsTold-after h.so_far.kept (λ need. need) told);
                  }))
                ];
              })

          -- the bytes end before it
          pub ended_before : {e : E} {strict : Bool} {least : ℕ} → Laws strict least L
              → ((error : Error) (x : E) → gives error x → eof x ≡ is_eof_error error) → IsTrue (eof e)
              → Reads gives eof seen L (Err e) mid new
              → ReadsUntilEnd gives eof seen gathers L greatest (Ok whole) old new
          ended_before {e = e} laws keeps_eof ends r =
              record {
                kept = Kept-after h.so_far.kept r.kept;
                answer = record {
                  items = h.items;
                  at_most = let l = h.count_is in omega arith;
                  gathered = h.gathered;
                  begin = begins;
                  ended = ended r.answer;
                  taken = λ told.
                      r.kept.tail (subst (λ (kind : ReaderKind). IsTrue kind.tells) (sym h.so_far.kept.fixed) told);
                };
              } where
                -- a refusal of the type's own is no end
                not_named : IsNamed gives L.names e → ⊥
                not_named named =
                    let own = own_is_no_end named.0 (laws.names_own named.0 named.1) in
                    let kept = keeps_eof (error_of named.0) e named.2 in
                    absurd (cc)

                ended : Excused gives L.asks.memory e mid new ⊎ Refused gives eof L e mid new
                    → Ended gives eof L mid.remaining old new
                ended (inl (inl x)) = let kept = keeps_eof (error_of kinds.OutOfMemory) e x.0 in absurd (cc)
                ended (inl (inr x)) =
                    elim (excused_after gives L.asks.memory true e old mid new h.so_far.kept.fixed h.so_far.got.no_fault
                    (λ _. refl) (inr x)) [
                      | inl y ↦ (let kept = keeps_eof (error_of kinds.OutOfMemory) e y.0 in absurd (cc))
                      | inr y ↦ inr (e, ends, y)
                    ]
                ended (inr x) = inl (
                  x.no_fault ∙ h.so_far.got.no_fault,
                  λ told.
                      let un = x.because (IsTold-after h.so_far.kept (λ need. need) told) in
                      record { no_prefix = un.no_prefix; not_malformed = λ bad. not_named (un.malformed bad) },
                )

module _ {E T F G V : Type 0} {gives : Error → E → Type 0} {eof : E → Bool} {seen : T → V}
    {gathers : List T → F → Type 0} {gathers' : List T → G → Type 0} {L : Format V} {greatest : ℕ}
    {old new : ReaderState} where
  -- what is refused as one thing is refused as another
  pub refused_until_end : {e : E} {result : Result G E} → IsErrAnd result (λ x. x ≡ e)
      → ReadsUntilEnd gives eof seen gathers L greatest (Err e) old new
      → ReadsUntilEnd gives eof seen gathers' L greatest result old new
  refused_until_end {e = e} passed r =
      subst (λ (x : Result G E). ReadsUntilEnd gives eof seen gathers' L greatest x old new) (passed_on _ e passed)
      (record { kept = r.kept; answer = r.answer })

  -- and answered, where the same items gather to it
  pub got_until_end : {whole : F} {other : G} → ((items : List T) → gathers items whole → gathers' items other)
      → ReadsUntilEnd gives eof seen gathers L greatest (Ok whole) old new
      → ReadsUntilEnd gives eof seen gathers' L greatest (Ok other) old new
  got_until_end f r =
      let got = r.answer in
      record {
        kept = r.kept;
        answer = record {
          items = got.items;
          at_most = got.at_most;
          gathered = f got.items got.gathered;
          begin = got.begin;
          ended = got.ended;
          taken = got.taken;
        };
      }
