-- Reads of parts that may be missing at the end of the bytes.
use Rattle.std.specs.Prelude.{◌≡◌, ℕ, List, [], ◌++◌, length, Bool, Option, Some, None, Result, Ok, Err}
use Rattle.std.specs.Prelude.{IsErrAnd, refl}
use Rattle.std.proofs.Common.{sym, ◌∙◌, ap, subst, arith, inl, inr}
use Rattle.std.proofs.lemmas.List.{append-nil, length-append, nil_from_length}
use Rattle.speedy_base.specs.declared.error.ErrorKind.TheVariants as kinds
use Rattle.speedy_base.specs.declared.error.Error.{Error}
use Rattle.speedy_base.specs.Error.{error_of}
use Rattle.speedy_layout.specs.Format.{Format}
use Rattle.speedy_layout.specs.Growing.{some_bytes, unless_none}
use Rattle.speedy_layout.specs.Laws.{Laws}
use Rattle.speedy_layout.specs.Sequences.{asks_same}
use Rattle.speedy_layout.specs.Wholes.{Misfits}
use Rattle.speedy_read.specs.Codes.{Covers, refused_covered}
use Rattle.speedy_read.specs.Reading.{ReaderState, Reads}
use Rattle.speedy_read.specs.ReadingLemmas.{Kept-same}
use Rattle.speedy_read.specs.Wholes.{InMemory, ReadsWhole}

covers_some : {V : Type 0} (F : Format V) → Covers F (some_bytes F)
unfolding some_bytes
covers_some F = record {
  under = λ v s h. (v, h.0);
  names = λ kind h. inl h;
  malformed = λ bytes are bad. inl bad;
  wrong_length = λ bytes are wrong. inl wrong;
  asks = asks_same;
}

module _ {E : Type 0} {gives : Error → E → Type 0} {eof : E → Bool} {V A : Type 0} (F : Format V) {seen : A → V}
    {old new : ReaderState} where
  pub some_refused : {e : E} {result : Result A E} → IsErrAnd result (λ x. x ≡ e)
      → Reads gives eof seen F (Err e) old new → Reads gives eof seen (some_bytes F) result old new
  some_refused passed r = refused_covered (covers_some F) passed r

  module _ {x : A} (r : Reads gives eof seen F (Ok x) old new) (before : InMemory old) where
    -- it took bytes
    pub some_read : (length new.remaining ≡ length old.remaining → ⊥)
        → Reads gives eof seen (some_bytes F) (Ok x) old new
    unfolding some_bytes
    some_read other = record {
      kept = r.kept;
      answer = record {
        prefix = r.answer.prefix;
        prefix_is = (
          r.answer.prefix_is,
          λ none. other (ap length (sym (r.answer.taken before.tells ∙ ap (λ s. s ++ new.remaining) none))),
        );
        taken = r.answer.taken;
        no_fault = r.answer.no_fault;
        untouched = r.answer.untouched;
      };
    }

    -- it took none, so that no value takes any
    pub none_read : {strict : Bool} {least : ℕ} {e : E} → Laws strict least F
        → length new.remaining ≡ length old.remaining → gives (error_of kinds.OutOfRangeLength) e
        → Reads gives eof seen (some_bytes F) (Err e) old new
    unfolding some_bytes
    none_read {e = e} laws same given = record {
      kept = r.kept;
      answer = inr (record {
        no_fault = r.answer.no_fault;
        kind = inr (kinds.OutOfRangeLength, inl (inr refl), given);
        because = λ told. record {
          no_prefix = λ v prefix rest is h. none v prefix h;
          too_short = λ v more h. absurd (none v (old.remaining ++ more) h);
          malformed = λ bad. absurd (laws.malformed_undecodable (seen x) [] old.remaining bad empty);
          wrong_length = λ _. given;
        };
      });
    } where
      empty : F.encodes (seen x) []
      empty =
          let long = ap length (r.answer.taken before.tells) ∙ length-append r.answer.prefix new.remaining in
          subst (F.encodes (seen x)) (nil_from_length r.answer.prefix (omega arith)) r.answer.prefix_is

      none : (v : V) (b : List ℕ) → F.encodes v b × (b ≡ [] → ⊥) → ⊥
      none v b h = h.1 (sym (laws.decodes (seen x) v [] b b [] empty h.0 (sym (append-nil b))).1)

-- ---- parts that may be missing

-- of some bytes what misfits a value does
abbrev some_misfits : Misfits → Misfits
some_misfits misfits = record {
  too_many = λ bytes. (bytes ≡ [] → ⊥) × misfits.too_many bytes;
  too_few = λ bytes. (bytes ≡ [] → ⊥) × misfits.too_few bytes;
}

module _ {E : Type 0} {gives : Error → E → Type 0} {eof : E → Bool} {V B : Type 0} (F : Format V) (misfits : Misfits)
    {seen : B → Option V} {old : ReaderState} where
  -- the bytes end
  pub end_whole : {y : B} → length old.remaining ≡ 0 → seen y ≡ None
      → ReadsWhole gives eof seen (unless_none F) (some_misfits misfits) (Ok y) old old
  unfolding unless_none
  end_whole none is = record {
    kept = Kept-same;
    answer = rw is (nil_from_length old.remaining none);
  }

  module _ {A : Type 0} {part : A → V} {new : ReaderState} (some : length old.remaining ≡ 0 → ⊥) where
    pub present_whole : {x : A} {y : B} → seen y ≡ Some (part x) → ReadsWhole gives eof part F misfits (Ok x) old new
        → ReadsWhole gives eof seen (unless_none F) (some_misfits misfits) (Ok y) old new
    unfolding unless_none
    present_whole is r = record { kept = r.kept; answer = rw is r.answer }

    pub present_refused : {e : E} → ReadsWhole gives eof part F misfits (Err e) old new
        → ReadsWhole gives eof seen (unless_none F) (some_misfits misfits) (Err e) old new
    unfolding unless_none
    present_refused {e = e} r = record {
      kept = r.kept;
      answer = elim r.answer [
        | inl want ↦ inl want
        | inr refused ↦ inr (record {
          kind = refused.kind;
          because = λ told v h. no_value (refused.because
              (record { tells = told.tells; are_bytes = told.are_bytes; fit = told.fit; lends = told.lends })) v h;
          too_many = λ told h. refused.too_many
              (record { tells = told.tells; are_bytes = told.are_bytes; fit = told.fit; lends = told.lends }) h.1;
          too_few = λ told h. refused.too_few
              (record { tells = told.tells; are_bytes = told.are_bytes; fit = told.fit; lends = told.lends }) h.1;
        })
      ];
    } where
      no_value : ((v : V) → F.encodes v old.remaining → ⊥) → (v : Option V)
          → (unless_none F).encodes v old.remaining → ⊥
      no_value none None h = some (ap length h)
      no_value none (Some v) h = none v h
