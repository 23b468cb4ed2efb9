-- How recursive types are written, level by level.
use Rattle.std.specs.Prelude.{◌≡◌, ℕ, suc, List, [], length, map, Result, Err, refl}
use Rattle.std.proofs.Common.{sym, subst, inr}
use Rattle.speedy_base.specs.declared.error.ErrorKind.TheVariants as kinds
use Rattle.speedy_base.specs.declared.error.Error.{Error}
use Rattle.speedy_base.specs.Error.{error_of}
use Rattle.speedy_layout.specs.Sequences.{counted_parts}
use Rattle.speedy_write.specs.BehindCounts.{counts_items}
use Rattle.speedy_write.specs.Sequences.{Kept-same as same_writer}
use Rattle.speedy_write.specs.Writing.{WriterState, Writes}
use Rattle.speedy.specs.Layers.{Layer, Seen, above, at_level, at_bottom, at_above}
use Rattle.speedy.specs.Levels.{no_value}

-- the items of a slice that shows others
pub counts_same : {A V : Type 0} (seen : A → V) (items slice : List A) → slice ≡ items
    → counted_parts (map seen items) ≡ (length slice, map seen slice)
counts_same seen items slice same =
    subst (λ (xs : List _). counted_parts (map seen xs) ≡ (length slice, map seen slice)) same (counts_items seen slice)

module _ {E : Type 0} {gives : Error → E → Type 0} {T : Type 0} (layer : Layer T T) {n : ℕ} {old : WriterState}
    {appended : List ℕ → Type 0} where
  -- where no level is left, no value is written
  pub none_written : (value : T) {e : E} → n ≡ 0 → gives (error_of kinds.OutOfRangeLength) e → appended []
      → (let whole = at_level layer n in Writes gives whole.codec.format (whole.view value) (Err e) old old appended)
  unfolding no_value
  none_written value {e = e} none given nothing =
      subst (λ (seen : Seen T). Writes gives seen.codec.format (seen.view value) (Err e) old old appended)
      (sym (at_bottom layer n none)) (record {
        kept = same_writer old;
        answer = record {
          beginning = λ b k. absurd k;
          appends = ([], nothing);
          because = inr (record {
            no_fault = refl;
            no_fit = λ b k fit. k;
            no_encoding = λ s b k. k;
            kind = inr (inr (kinds.OutOfRangeLength, refl, given));
          });
        };
      })

  -- a value is written as its parts are on the level below
  pub value_written : (value : T) {result : Result (Unit {0}) E} {new : WriterState} {m : ℕ}
      → (let whole = above layer (at_level layer m) in
      Writes gives whole.codec.format (whole.view value) result old new appended)
      → n ≡ suc m
      → (let whole = at_level layer n in Writes gives whole.codec.format (whole.view value) result old new appended)
  value_written value {result = result} {new = new} {m = m} w is =
      subst (λ (seen : Seen T). Writes gives seen.codec.format (seen.view value) result old new appended)
      (sym (at_above layer n m is)) w
