-- How recursive types are read, level by level.
use Rattle.std.specs.Prelude.{◌≡◌, ℕ, suc, Bool, Result, Ok, Err, refl}
use Rattle.std.proofs.Common.{ap, sym, subst, inl, inr}
use Rattle.speedy_base.specs.declared.error.ErrorKind.TheVariants as kinds
use Rattle.speedy_base.specs.declared.error.Error.{Error}
use Rattle.speedy_base.specs.Error.{error_of}
use Rattle.speedy_base.specs.Mode.{Mode}
use Rattle.speedy_read.specs.Reading.{ReaderState, Reads}
use Rattle.speedy_read.specs.ReadingLemmas.{Kept-same as same_reader, got_as}
use Rattle.speedy.specs.Layers.{Layer, Seen, layer_of, above, at_level, at_bottom, at_above}
use Rattle.speedy.specs.Levels.{no_value}

module _ {E : Type 0} {gives : Error → E → Type 0} {eof : E → Bool} {T : Type 0} {n : ℕ} where
  -- where no level is left, no value is read
  pub none_read : (layer : Layer T T) (mode : Mode) {e : E} {old : ReaderState} → n ≡ 0
      → gives (error_of kinds.OutOfRangeLength) e
      → (let whole = at_level layer n in Reads gives eof whole.view (whole.codec.format mode) (Err e) old old)
  unfolding no_value
  none_read layer mode {e = e} {old = old} none given =
      subst (λ (seen : Seen T). Reads gives eof seen.view (seen.codec.format mode) (Err e) old old)
      (sym (at_bottom layer n none)) (record {
        kept = same_reader;
        answer = inr (record {
          no_fault = refl;
          kind = inr (kinds.OutOfRangeLength, inl refl, given);
          because = λ told. record {
            no_prefix = λ v prefix rest is h. h;
            too_short = λ v more h. absurd h;
            malformed = λ _. (kinds.OutOfRangeLength, refl, given);
            wrong_length = λ h. absurd h;
          };
        });
      })

  -- a value is read as it is on the level above one
  pub level_read : (layer : Layer T T) (mode : Mode) {old new : ReaderState} {m : ℕ} {result : Result T E} → n ≡ suc m
      → (let whole = above layer (at_level layer m) in
      Reads gives eof whole.view (whole.codec.format mode) result old new)
      → (let whole = at_level layer n in Reads gives eof whole.view (whole.codec.format mode) result old new)
  level_read layer mode {old = old} {new = new} {m = m} {result = result} is r =
      subst (λ (seen : Seen T). Reads gives eof seen.view (seen.codec.format mode) result old new)
      (sym (at_above layer n m is)) r

  module _ {A : Type 0} (layer : Layer T A) (parts_of : T → A) (mode : Mode) {old new : ReaderState} {m : ℕ} where
    -- a value is read as its parts are on the level below
    pub value_read : {parts : A} {value : T}
        → (let below = at_level (layer_of layer parts_of) m in
        Reads gives eof (layer.view below.view) ((layer.codec below.codec).format mode) (Ok parts) old new)
        → n ≡ suc m → parts_of value ≡ parts
        → (let whole = at_level (layer_of layer parts_of) n in
        Reads gives eof whole.view (whole.codec.format mode) (Ok value) old new)
    unfolding layer_of
    value_read r is same =
        level_read (layer_of layer parts_of) mode is
        (got_as (ap (layer.view (at_level (layer_of layer parts_of) m).view) same) r)

    -- and refused as these are
    pub value_refused : {e : E}
        → (let below = at_level (layer_of layer parts_of) m in
        Reads gives eof (layer.view below.view) ((layer.codec below.codec).format mode) (Err e) old new)
        → n ≡ suc m
        → (let whole = at_level (layer_of layer parts_of) n in
        Reads gives eof whole.view (whole.codec.format mode) (Err e) old new)
    unfolding layer_of
    value_refused r is = level_read (layer_of layer parts_of) mode is (record { kept = r.kept; answer = r.answer })
