-- What is seen of a tree, and which bytes encode it.
use Rattle.std.specs.Prelude.{◌≡◌, ℕ, suc, ◌^◌, ◌<◌, max, List, [], ◌∷◌, length, refl}
use Rattle.std.proofs.Common.{ap}
use Rattle.speedy.specs.declared.error.ErrorKind.TheVariants as kinds
use Rattle.speedy.specs.Mode.{Mode}
use Rattle.speedy.specs.Format.{Format}
use Rattle.speedy.specs.Laws.{Laws, SameWritten}
use Rattle.speedy.specs.Lists.{list, list_laws, list_written}
use Rattle.speedy.specs.Numbers.{unsigned_number, unsigned_number_laws, unsigned_written}
use Rattle.speedy.specs.Sequences.{sequence, sequence_laws, sequence_written, asks_same, told_apart}
use Rattle.speedy.specs.Levels.{levels, levels_laws, levels_written}
use Rattle.speedy_lines.specs.declared.tree.Tree.{Tree, fold-Tree}
use Rattle.speedy_lines.specs.declared.tree.Tree.TheOpen.{Tree-F}

-- a value and trees below it, and a list of such trees
mutual
  pub data Rose : Type 0 where
    node : ℕ → Forest → Rose

  pub data Forest : Type 0 where
    no_trees : Forest
    with_tree : Rose → Forest → Forest

-- how many levels it has
abbrev mutual
  pub depth : Rose → ℕ
  depth (node value children) = suc (depths children)

  pub depths : Forest → ℕ
  depths no_trees = 0
  depths (with_tree r rs) = max (depth r) (depths rs)

-- a list of trees is a forest, and back
abbrev pub forest_of : List Rose → Forest
forest_of [] = no_trees
forest_of (r ∷ rs) = with_tree r (forest_of rs)

abbrev pub trees_of : Forest → List Rose
trees_of no_trees = []
trees_of (with_tree r rs) = r ∷ trees_of rs

-- each value is a byte, and each count fits its digits
abbrev mutual
  pub FitsDigits : Rose → Type 0
  FitsDigits (node value children) = (value < 256) × (length (trees_of children) < 2 ^ 32) × EachFitsDigits children

  pub EachFitsDigits : Forest → Type 0
  EachFitsDigits no_trees = Unit {0}
  EachFitsDigits (with_tree r rs) = FitsDigits r × EachFitsDigits rs

-- a node's value and children, and back
abbrev pub parts : Rose → ℕ × List Rose
parts (node value children) = (value, trees_of children)

abbrev pub whole : ℕ → List Rose → Rose
whole value children = node value (forest_of children)

-- what is seen of a tree
abbrev pub view_step : Tree-F Rose → Rose
view_step tree = whole tree.value tree.children.items

abbrev pub view : Tree → Rose
view = fold-Tree Rose view_step

-- the value, and a list of children
abbrev pub tree_step : Mode → Format Rose → Format Rose
tree_step mode F = sequence parts (unsigned_number 1 mode) (list mode F).asks (λ _. list mode F)

-- trees of at most n levels
abbrev pub tree_levels : ℕ → Mode → Format Rose
tree_levels n mode = levels kinds.OutOfRangeLength (tree_step mode) n

abbrev pub tree_format : Mode → Format Rose
tree_format = tree_levels 16

forest_back : (rs : Forest) → forest_of (trees_of rs) ≡ rs
forest_back no_trees = refl
forest_back (with_tree r rs) = ap (with_tree r) (forest_back rs)

trees_back : (rs : List Rose) → trees_of (forest_of rs) ≡ rs
trees_back [] = refl
trees_back (r ∷ rs) = ap (λ xs. r ∷ xs) (trees_back rs)

joined : (r : Rose) → whole (parts r).0 (parts r).1 ≡ r
joined (node value children) = ap (node value) (forest_back children)

-- a node that is put together comes apart again
pub apart : (value : ℕ) (children : List Rose) → let both : ℕ × List Rose = (value, children) in
    parts (whole value children) ≡ both
apart value children = ap (λ (rs : List Rose). let both : ℕ × List Rose = (value, rs) in both) (trees_back children)

pub tree_step_laws : (mode : Mode) (F : Format Rose) → Laws mode.strict 5 F
    → Laws mode.strict 5 (tree_step mode F)
tree_step_laws mode F laws =
    sequence_laws {n = 1} {m = 4} (unsigned_number_laws 1 mode) (λ _. list_laws mode laws) (λ _. asks_same)
    (told_apart parts whole joined)

pub tree_laws : (n : ℕ) (mode : Mode) → Laws mode.strict 5 (tree_levels n mode)
tree_laws n mode = levels_laws kinds.OutOfRangeLength tt (tree_step mode) (tree_step_laws mode) n

pub trees_written : (n : ℕ) → SameWritten (tree_levels n)
trees_written n f strict =
    levels_written kinds.OutOfRangeLength (tree_step f) (tree_step (record f { strict = strict }))
    (λ F G same. sequence_written parts _ _ (unsigned_written 1 f strict) (λ _. list_written same f strict)) n
