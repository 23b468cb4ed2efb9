-- How a tree is seen, taken apart and put together.
use Rattle.std.specs.Prelude.{◌≡◌, ℕ, List, [], ◌∷◌, ◌++◌, map, Vec}
use Rattle.std.proofs.Common.{◌∙◌, ap, rules}
use Rattle.std.proofs.lemmas.List.{map-append}
use Rattle.std.specs.declared.alloc.Global.{Global}
use Rattle.speedy.specs.Mode.{Mode}
use Rattle.speedy.specs.Format.{Format}
use Rattle.speedy.specs.Lists.{list}
use Rattle.speedy.specs.Numbers.{unsigned_number}
use Rattle.speedy.specs.ReadSequences.{Composes, sequence_composes}
use Rattle.speedy.specs.Sequences.{asks_same}
use Rattle.speedy_lines.specs.Trees.{Rose, view, parts, whole, apart, tree_step}
use Rattle.speedy_lines.specs.declared.tree.Tree.{Tree, out-Tree, the_lemmas}
use Rattle.speedy_lines.specs.declared.tree.Tree.TheViews.{roll-Tree}

-- a node is read as its value and then its children
pub tree_composes : (mode : Mode) (F : Format Rose)
    → Composes (unsigned_number 1 mode) (λ _. list mode F) (tree_step mode F) whole
tree_composes mode F = sequence_composes parts (λ _. asks_same) (λ value children s h. apart value children)

-- what is seen of a tree that is made
pub view_made : (value : ℕ) (children : Vec Tree Global)
    → view (roll-Tree (record { value = value; children = children })) ≡ whole value (map view children.items)
view_made value children = search (rules, the_lemmas)

-- and of one that is there
pub view_parts : (t : Tree) → let both : ℕ × List Rose = ((out-Tree t).value, map view (out-Tree t).children.items) in
    parts (view t) ≡ both
view_parts t = ap parts seen ∙ apart (out-Tree t).value (map view (out-Tree t).children.items) where
  seen : view t ≡ whole (out-Tree t).value (map view (out-Tree t).children.items)
  seen = search (rules, the_lemmas)

-- what is seen of items and one item more
pub seen_pushed : {X V : Type 0} (seen : X → V) {zs : List X} (xs : List X) (x : X) → zs ≡ xs ++ x ∷ []
    → map seen zs ≡ map seen xs ++ seen x ∷ []
seen_pushed seen xs x added = ap (map seen) added ∙ map-append seen xs (x ∷ [])
