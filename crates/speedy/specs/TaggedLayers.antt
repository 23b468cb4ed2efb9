-- Recursive enums: a tag, and behind it the parts of a case, which hold values of the enum.
use Rattle.std.specs.Prelude.{◌≡◌, ℕ, suc, ◌⊎◌, Bool, List, [], ◌++◌, Result, Ok, Err}
use Rattle.std.specs.Prelude.{IsErrAnd, refl}
use Rattle.std.proofs.Common.{ap, sym, subst, ◌∙◌, inl, inr}
use Rattle.speedy_base.specs.declared.error.Error.{Error}
use Rattle.speedy_base.specs.Mode.{Mode}
use Rattle.speedy_layout.specs.Choices.{Choices, unit_case, one_case, either_case, choices_behind}
use Rattle.speedy_layout.specs.Laws.{Codec}
use Rattle.speedy_layout.specs.Prefixed.{Numbers, prefixed_codec}
use Rattle.speedy_read.specs.Cases.{ReadsBehind}
use Rattle.speedy_read.specs.Reading.{ReaderState, Reads}
use Rattle.speedy_read.specs.ReadingLemmas.{got_as}
use Rattle.speedy_read.specs.Sequences.{refused_first, second_decides}
use Rattle.speedy_read.proofs.CaseLemmas.{tagged_composes, behind_read}
use Rattle.speedy_write.specs.Cases.{WritesCase}
use Rattle.speedy_write.specs.Sequences.{is_sequence, first_refused, second_written}
use Rattle.speedy_write.specs.Writing.{WriterState, Writes}
use Rattle.speedy_write.proofs.CaseLemmas.{case_written}
use Rattle.speedy.specs.Layers.{Layer, Seen, at_level}
use Rattle.speedy.specs.ReadLayers.{level_read}
use Rattle.speedy.specs.WriteLayers.{value_written}

-- How an A, whose cases have tags, holds values of T: as a layer, with cases in place of the codec.
pub record Branches (T A : Type 0) : Type 1 where
  pub Shape : Type 0 → Type 0
  pub view : {V : Type 0} → (T → V) → A → Shape V
  pub choices : {V : Type 0} → Codec V → Choices (Shape V)

-- a case with this tag, and no parts
unfoldable pub unit_branch : {T : Type 0} → ℕ → Branches T (Unit {0})
unit_branch n = record { Shape = λ V. Unit {0}; view = λ see value. tt; choices = λ below. unit_case n }

-- a case with this tag, whose parts are those of a layer
unfoldable pub one_branch : {T A : Type 0} → ℕ → Layer T A → Branches T A
one_branch n layer = record {
  Shape = layer.Shape;
  view = layer.view;
  choices = λ below. one_case n (layer.codec below);
}

-- the cases of a first group, and those of a second one
unfoldable pub either_branch : {T A B : Type 0} → Branches T A → Branches T B → Branches T (A ⊎ B)
either_branch {T = T} {A = A} {B = B} first second = record {
  Shape = λ V. first.Shape V ⊎ second.Shape V;
  view = view;
  choices = λ below. either_case (first.choices below) (second.choices below);
} where
  view : {V : Type 0} → (T → V) → A ⊎ B → first.Shape V ⊎ second.Shape V
  view see (inl a) = inl (first.view see a)
  view see (inr b) = inr (second.view see b)

-- a case, encoded as its tag and then as its parts
unfoldable pub tagged_layer : {T A : Type 0} → Numbers → Branches T A → (T → A) → Layer T T
tagged_layer numbers branches case_of = record {
  Shape = branches.Shape;
  view = λ see value. branches.view see (case_of value);
  codec = λ below. prefixed_codec (choices_behind (branches.choices below) numbers);
}

module _ {T A : Type 0} (numbers : Numbers) (branches : Branches T A) (case_of : T → A) where
  -- n levels of the enum
  abbrev level : ℕ → Seen T
  level n = at_level (tagged_layer numbers branches case_of) n

  -- a tag, and behind it a case that holds values of n levels
  abbrev behind_tag : (n : ℕ) → Codec (branches.Shape (level n).Value)
  behind_tag n = prefixed_codec (choices_behind (branches.choices (level n).codec) numbers)

  module _ {E : Type 0} {gives : Error → E → Type 0} {eof : E → Bool} (m : ℕ) (mode : Mode) {old : ReaderState} where
    -- a tag that is refused
    pub tag_refused : {n : ℕ} {e : E} {new : ReaderState}
        → Reads gives eof (λ (n : ℕ). n) (numbers.codec.format mode) (Err e) old new → n ≡ suc m
        → Reads gives eof (level n).view ((level n).codec.format mode) (Err e) old new
    unfolding tagged_layer
    tag_refused number is =
        level_read (tagged_layer numbers branches case_of) mode is
        (refused_first (tagged_composes numbers.codec.format (branches.choices (level m).codec) mode) refl number)

    module _ (tag : ℕ) {mid new : ReaderState} (same : old.mode ≡ mode)
        (number : Reads gives eof (λ (n : ℕ). n) (numbers.codec.format mode) (Ok tag) old mid) where
      case_read : {result : Result A E}
          → (let at_tag = (branches.choices (level m).codec).case_of tag in
          ReadsBehind gives eof (branches.view (level m).view) at_tag result mid new)
          → Reads gives eof (branches.view (level m).view) ((behind_tag m).format mode) result old new
      case_read {result = result} behind =
          second_decides (tagged_composes numbers.codec.format (branches.choices (level m).codec) mode)
          (numbers.codec.laws mode) number (behind_read _ result (number.kept.mode ∙ same) behind) (λ _. refl)

      -- a value is read as its case is behind the tag
      pub tagged_read : {n : ℕ} {parts : A} {value : T}
          → (let at_tag = (branches.choices (level m).codec).case_of tag in
          ReadsBehind gives eof (branches.view (level m).view) at_tag (Ok parts) mid new)
          → n ≡ suc m → case_of value ≡ parts
          → Reads gives eof (level n).view ((level n).codec.format mode) (Ok value) old new
      unfolding tagged_layer
      tagged_read behind is told =
          level_read (tagged_layer numbers branches case_of) mode is
          (got_as (ap (branches.view (level m).view) told) (case_read behind))

      -- and refused as this is
      pub case_refused : {n : ℕ} {e : E}
          → (let at_tag = (branches.choices (level m).codec).case_of tag in
          ReadsBehind gives eof (branches.view (level m).view) at_tag (Err e) mid new)
          → n ≡ suc m → Reads gives eof (level n).view ((level n).codec.format mode) (Err e) old new
      unfolding tagged_layer
      case_refused behind is =
          let read = case_read {result = Err _} behind in
          level_read (tagged_layer numbers branches case_of) mode is
          (record { kept = read.kept; answer = read.answer })

  module _ {E S : Type 0} {gives : Error → E → Type 0} (m : ℕ) (state : S → WriterState)
      (appends : S → List ℕ → S → Type 0) (tag : ℕ) (parts : A) {old : S}
      (its : (branches.choices (level m).codec).tag (branches.view (level m).view parts) ≡ tag) where
    -- a value is written as its case is behind the tag
    case_of_written : {n : ℕ} {value : T} {result : Result (Unit {0}) E} {new : S}
        → Writes gives (behind_tag m).format (branches.view (level m).view parts) result (state old) (state new)
        (λ b. appends old b new)
        → n ≡ suc m → case_of value ≡ parts
        → Writes gives (level n).codec.format ((level n).view value) result (state old) (state new)
        (λ b. appends old b new)
    unfolding tagged_layer
    case_of_written {value = value} {result = result} {new = new} written is told =
        let whole =
        subst (λ (a : A). Writes gives (behind_tag m).format (branches.view (level m).view a) result (state old)
        (state new) (λ b. appends old b new)) (sym told) written in
        value_written (tagged_layer numbers branches case_of) value whole is

    -- a tag that is not written
    pub tag_unwritten : {n : ℕ} {value : T} {e : E} {result : Result (Unit {0}) E} {new : S}
        → IsErrAnd result (λ x. x ≡ e)
        → Writes gives numbers.codec.format tag (Err e) (state old) (state new) (λ b. appends old b new)
        → n ≡ suc m → case_of value ≡ parts
        → Writes gives (level n).codec.format ((level n).view value) result (state old) (state new)
        (λ b. appends old b new)
    tag_unwritten passed number =
        case_of_written
        (first_refused is_sequence (ap (λ t. (t, branches.view (level m).view parts)) its) passed number)

    -- a tag, and what stands behind it
    pub tagged_written : {n : ℕ} {value : T} {done : Unit {0}} {result : Result (Unit {0}) E} {mid new : S}
        → ((a b : List ℕ) → appends old a mid → appends mid b new → appends old (a ++ b) new) → appends mid [] mid
        → Writes gives numbers.codec.format tag (Ok done) (state old) (state mid) (λ b. appends old b mid)
        → (let at_tag = (branches.choices (level m).codec).case_of tag in
        WritesCase gives state appends at_tag (branches.view (level m).view parts) result mid new)
        → n ≡ suc m → case_of value ≡ parts
        → Writes gives (level n).codec.format ((level n).view value) result (state old) (state new)
        (λ b. appends old b new)
    tagged_written {result = result} join nothing number behind =
        case_of_written
        (second_written is_sequence (ap (λ t. (t, branches.view (level m).view parts)) its) numbers.codec.laws join
        number (case_written state appends _ _ result nothing behind))

    -- a tag that nothing stands behind
    pub unit_written : {n : ℕ} {value : T} {result : Result (Unit {0}) E} {new : S}
        → ((a b : List ℕ) → appends old a new → appends new b new → appends old (a ++ b) new) → appends new [] new
        → Writes gives numbers.codec.format tag result (state old) (state new) (λ b. appends old b new)
        → (let at_tag = (branches.choices (level m).codec).case_of tag in
        WritesCase gives state appends at_tag (branches.view (level m).view parts) (Ok tt) new new)
        → n ≡ suc m → case_of value ≡ parts
        → Writes gives (level n).codec.format ((level n).view value) result (state old) (state new)
        (λ b. appends old b new)
    unit_written {result = Ok done} join nothing number behind = tagged_written join nothing number behind
    unit_written {result = Err e} join nothing number behind = tag_unwritten refl number
