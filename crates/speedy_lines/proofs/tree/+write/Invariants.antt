use Rattle.std.proofs.Common.{take, Ok, ◌+◌, ◌*◌}
use Rattle.speedy.specs.Writing.{WritesEach}
use Rattle.speedy_lines.specs.Trees.{view, tree_levels}
use Rattle.speedy_lines.proofs.tree.+write.Given as goal

abbrev pub decreases-write_children : goal.decreases-write_children
decreases-write_children g l = 2 * l.levels + 1

abbrev pub decreases-write_levels : goal.decreases-write_levels
decreases-write_levels g l = 2 * l.levels

-- the first children are written
abbrev pub invariant-write_children-loop-child : goal.invariant-write_children-loop-child
invariant-write_children-loop-child g l =
    let W = g.W.Writer in
    let before = l.initial.writer in
    WritesEach g.C.Error.From.from_gives (tree_levels l.levels) view (take l.child-index l.children) (Ok tt)
    (W.state before) (W.state l.writer) (λ b. W.appends before b l.writer)
