-- Writes of parts that may be missing at the end of the bytes.
use Rattle.std.specs.Prelude.{◌≡◌, ℕ, List, [], Some, None, Result, Ok, Err, refl}
use Rattle.std.proofs.Common.{sym, subst, inl, inr}
use Rattle.std.proofs.lemmas.List.{append-nil}
use Rattle.speedy_base.specs.declared.error.ErrorKind.TheVariants as kinds
use Rattle.speedy_base.specs.declared.error.Error.{Error}
use Rattle.speedy_base.specs.Error.{error_of}
use Rattle.speedy_base.specs.Mode.{Mode}
use Rattle.speedy_layout.specs.Codecs.{Codec}
use Rattle.speedy_layout.specs.Format.{Format}
use Rattle.speedy_layout.specs.Growing.{some_bytes, unless_none}
use Rattle.speedy_layout.specs.Laws.{Laws}
use Rattle.speedy_write.specs.Sequences.{Kept-same, Put-nothing, Writes-as}
use Rattle.speedy_write.specs.Writing.{WriterState, Writes}

-- a value that takes bytes
pub some_written : {E V : Type 0} {gives : Error → E → Type 0} (value : Codec V) {v : V} {result : Result (Unit {0}) E}
    {old new : WriterState} {appended : List ℕ → Type 0} → ((value.format old.mode).writes v [] → ⊥)
    → Writes gives value.format v result old new appended
    → Writes gives (λ f. some_bytes (value.format f)) v result old new appended
unfolding some_bytes
some_written value {v = v} {old = old} takes w =
    Writes-as (λ kind h. inl h)
    (λ b h. (h, λ none. takes (subst ((value.format old.mode).writes v) none h)))
    (λ b h. (b, h.0, refl)) (λ b h. (b, h.0)) w

-- and one that takes none
pub none_refused : {E V : Type 0} {gives : Error → E → Type 0} (value : Codec V) {v : V} {e : E}
    {old new : WriterState} {appended : List ℕ → Type 0} → (value.format old.mode).writes v []
    → gives (error_of kinds.OutOfRangeLength) e → new ≡ old → appended []
    → Writes gives (λ f. some_bytes (value.format f)) v (Err e) old new appended
unfolding some_bytes
none_refused {gives = gives} value {v = v} {e = e} {old = old} {appended = appended} writes given same nothing =
    subst (λ (s : WriterState). Writes gives (λ f. some_bytes (value.format f)) v (Err e) old s appended) (sym same)
    (record {
      kept = Kept-same old;
      answer = record {
        beginning = λ b h. absurd (none b (laws.written_encodes v b h.0) h.1);
        appends = ([], nothing);
        because = inr (record {
          no_fault = refl;
          no_fit = λ b h fit. none b (laws.written_encodes v b h.0) h.1;
          no_encoding = λ unbound b h. none b h.0 h.1;
          kind = inr (inl given);
        });
      };
    }) where
      laws : Laws old.mode.strict value.least (value.format old.mode)
      laws = value.laws old.mode

      none : (b : List ℕ) → (value.format old.mode).encodes v b → (b ≡ [] → ⊥) → ⊥
      none b h some =
          some (sym (laws.decodes v v [] b b [] (laws.written_encodes v [] writes) h (sym (append-nil b))).1)

-- the parts are missing, or written
pub missing_written : {E V : Type 0} {gives : Error → E → Type 0} (F : Mode → Format V) {old : WriterState}
    {appended : List ℕ → Type 0} → appended []
    → Writes gives (λ f. unless_none (F f)) None (Ok tt) old old appended
unfolding unless_none
missing_written F {old = old} nothing = record { kept = Kept-same old; answer = Put-nothing old nothing }

pub present_written : {E V : Type 0} {gives : Error → E → Type 0} (F : Mode → Format V) {v : V}
    {result : Result (Unit {0}) E} {old new : WriterState} {appended : List ℕ → Type 0}
    → Writes gives F v result old new appended
    → Writes gives (λ f. unless_none (F f)) (Some v) result old new appended
unfolding unless_none
present_written F w = Writes-as (λ kind h. h) (λ b h. h) (λ b h. (b, h, refl)) (λ b h. (b, h)) w
