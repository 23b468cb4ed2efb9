-- What a view shows where one that it holds shows nothing, for the proofs that `tools/derive --library` writes.
use Rattle.std.specs.Prelude.{◌≡◌, Result, Ok, Err, IsErrAnd}
use Rattle.speedy.specs.Exports.{MakesShown}

-- what is refused as a part was shows no value
pub shows_none : {A V W E : Type 0} (seen : A → V) (shows : A → W → Type 0) (view : W) (result : Result A E) (e : E)
    → IsErrAnd result (λ x. x ≡ e) → ((value : A) → shows value view → ⊥) → MakesShown seen shows view result
shows_none seen shows view (Ok v) e h none = absurd h
shows_none seen shows view (Err x) e h none = none
