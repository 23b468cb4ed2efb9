-- What an iterator over a view has left.
use Rattle.std.specs.Prelude.{ℕ, List}
use Rattle.speedy_layout.specs.declared.views.ViewIter.{ViewIter}
use Rattle.speedy_layout.specs.Views.{shown_items}

-- the items that the bytes show which it has left
abbrev pub left_items : {A : Type 0} → (List ℕ → A) → ℕ → ViewIter A → List A
left_items decoded size it = shown_items decoded size it.rest.now
