-- What the write of a collection's items does.
use Rattle.std.specs.Prelude.{ℕ, ◌<◌, List, Option, OnSome, Result, MatchResult}
use Rattle.std.specs.Iterator.{Yields, YieldsThen, Drains, Count, IsFinite, size}
use Rattle.speedy_base.specs.declared.error.Error.{Error}
use Rattle.speedy_base.specs.Mode.{Mode}
use Rattle.speedy_layout.specs.Format.{Format}
use Rattle.speedy_write.specs.Writing.{WriterState, WritesEach}

-- From one state of an iterator on the first items were taken of it, and then the next one, or it had none. Behind an
-- item it may go on, and has fewer left.
pub record TakesSome {S A : Type 0} (can : S → Type 0) (left : S → Count) (steps : S → Option A → S → Type 0)
    (taken : List A) (next : Option A) (old new : S) : Type 0 where
  pub gave : YieldsThen steps old taken next new
  pub goes_on : OnSome next (can new × IsFinite (left new) × (size (left new) < size (left old)))

module _ {U S A V : Type 0} (becomes : U → S → Type 0) (steps : S → Option A → S → Type 0) (seen : A → V) where
  -- The write of the items that an iterator gives, one after the other. Where it succeeds they are all its items, and
  -- where it is refused those as far as the one that was refused.
  pub record WritesItems {E : Type 0} (gives : Error → E → Type 0) (F : Mode → Format V) (items : U)
      (result : Result (Unit {0}) E) (old new : WriterState) (appended : List ℕ → Type 0) : Type 0 where
    pub iterator : S
    pub iterator_is : becomes items iterator
    pub walked : List A
    pub are_walked : MatchResult result (λ _. Drains steps iterator walked)
        (λ _. (rest : S) × Yields steps iterator walked rest)
    pub writes : WritesEach gives F seen walked result old new appended
