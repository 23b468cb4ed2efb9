-- Types whose values hold values of the type itself: what is seen of one, and which bytes encode it, level by level.
use Rattle.std.specs.Prelude.{◌≡◌, ℕ, zero, suc, List, map, Option, Some, None, refl}
use Rattle.std.specs.Option.{option_map}
use Rattle.std.proofs.Common.{ap, arith, Bor}
use Rattle.speedy_base.specs.declared.error.ErrorKind.TheVariants as kinds
use Rattle.speedy_layout.specs.Codecs.{Codec, owned_codec, option_codec, list_codec, pair_codec}
use Rattle.speedy_layout.specs.Laws.{writes_itself}
use Rattle.speedy.specs.Levels.{no_value, no_value_laws}

-- How an A holds values of T: what is seen of one where a V is seen of each of these, and how it is encoded where these
-- are encoded as a V is.
pub record Layer (T A : Type 0) : Type 1 where
  pub Shape : Type 0 → Type 0
  pub view : {V : Type 0} → (T → V) → A → Shape V
  pub codec : {V : Type 0} → Codec V → Codec (Shape V)

-- what holds no T
unfoldable pub own_layer : {T A V : Type 0} → (A → V) → Codec V → Layer T A
own_layer seen codec = record { Shape = λ V. _; view = λ see own. seen own; codec = λ below. codec }

-- a T itself
unfoldable pub its_layer : {T : Type 0} → Layer T T
its_layer = record { Shape = λ V. V; view = λ see value. see value; codec = λ below. below }

-- what holds Ts as its parts do
unfoldable pub layer_of : {T A B : Type 0} → Layer T A → (B → A) → Layer T B
layer_of layer parts = record {
  Shape = layer.Shape;
  view = λ see whole. layer.view see (parts whole);
  codec = layer.codec;
}

-- what is read into memory of its own
unfoldable pub owned_layer : {T A : Type 0} → Layer T A → Layer T A
owned_layer layer = record layer { codec = λ below. owned_codec (layer.codec below) }

-- an A that may be absent
unfoldable pub option_layer : {T A : Type 0} → Layer T A → Layer T (Option A)
option_layer layer = record {
  Shape = λ V. Option (layer.Shape V);
  view = λ see option. option_map (layer.view see) option;
  codec = λ below. option_codec (layer.codec below);
}

-- As, behind their number
unfoldable pub list_layer : {T A : Type 0} → Layer T A → Layer T (List A)
list_layer layer = record {
  Shape = λ V. List (layer.Shape V);
  view = λ see items. map (layer.view see) items;
  codec = λ below. list_codec (layer.codec below);
}

-- an A, and behind it a B
unfoldable pub pair_layer : {T A B : Type 0} → Layer T A → Layer T B → Layer T (A × B)
pair_layer first second = record {
  Shape = λ V. first.Shape V × second.Shape V;
  view = λ see both. (first.view see both.0, second.view see both.1);
  codec = λ below. pair_codec (first.codec below) (second.codec below);
}

-- What is seen of a T down to some level, and how it is encoded.
pub record Seen (T : Type 0) : Type 1 where
  pub Value : Type 0
  pub view : T → Value
  pub codec : Codec Value

-- On level 0 nothing is seen, and no value has an encoding.
abbrev pub none_seen : {T : Type 0} → Seen T
none_seen = record {
  Value = Unit {0};
  view = λ _. tt;
  codec = record {
    least = 0;
    format = λ _. no_value kinds.OutOfRangeLength;
    laws = λ _. no_value_laws kinds.OutOfRangeLength tt;
    same_written = λ _ _. writes_itself;
  };
}

-- A layer above a level.
abbrev pub above : {T : Type 0} → Layer T T → Seen T → Seen T
above layer below = record {
  Value = layer.Shape below.Value;
  view = layer.view below.view;
  codec = layer.codec below.codec;
}

-- n layers, one above another
unfoldable pub at_level : {T : Type 0} → Layer T T → ℕ → Seen T
at_level layer zero = none_seen
at_level layer (suc n) = above layer (at_level layer n)

pub at_bottom : {T : Type 0} (layer : Layer T T) (n : ℕ) → n ≡ 0 → at_level layer n ≡ none_seen
unfolding at_level
at_bottom layer zero h = refl
at_bottom layer (suc n) h = absurd (omega (arith, h))

pub at_above : {T : Type 0} (layer : Layer T T) (n m : ℕ) → n ≡ suc m
    → at_level layer n ≡ above layer (at_level layer m)
unfolding at_level
at_above layer zero m h = absurd (omega (arith, h))
at_above layer (suc n) m h = let same : n ≡ m = omega (arith, h) in ap (λ k. above layer (at_level layer k)) same

-- ---- levels that are left

-- one more than those below, if there are such
abbrev pub levels_above : Option (Bor ℕ) → ℕ
levels_above None = 0
levels_above (Some below) = suc below.now
