use Rattle.std.proofs.Common.{arith}
use Rattle.speedy.specs.declared.error.ErrorKind.TheVariants as kinds
use Rattle.speedy.specs.Lists.{list}
use Rattle.speedy.specs.Numbers.{unsigned_number_laws}
use Rattle.speedy.specs.WriteBehindCounts.{counts_items, items_written}
use Rattle.speedy.specs.WriteSequences.{is_sequence, first_refused, second_written}
use Rattle.speedy_lines.specs.Trees.{view, tree_step, tree_levels, tree_laws}
use Rattle.speedy.specs.WriteLevels.{no_level_written, level_written}
use Rattle.speedy_lines.proofs.TreeLemmas.{view_parts}
use Rattle.speedy.specs.WriteItems.{no_items_written, one_more_written, items_refused}
use Rattle.speedy_lines.proofs.tree.+write.Goals as goal

pub write_levels-returns-then-levels-eq0 : goal.write_levels-returns-then-levels-eq0
write_levels-returns-then-levels-eq0 g t c =
    no_level_written kinds.OutOfRangeLength tree_step (omega arith) c.error_out_of_range_length.ensures
    (g.met.W.Writer.nothing _)

pub write_levels-returns-in_err-write_u8 : goal.write_levels-returns-in_err-write_u8
write_levels-returns-in_err-write_u8 g t c =
    level_written kinds.OutOfRangeLength tree_step (omega arith)
    (first_refused is_sequence (view_parts c.args.tree.now) c.from_residual.ensures.1 c.in_err-write_u8.ensures.writes)

pub write_levels-returns-in_err-write_length : goal.write_levels-returns-in_err-write_length
unfolding list
write_levels-returns-in_err-write_length g t c =
    level_written kinds.OutOfRangeLength tree_step (omega arith)
    (second_written is_sequence (rw (← c.as_slice-children.ensures.value) at (view_parts c.args.tree.now))
    (unsigned_number_laws 1) (g.met.W.Writer.additive _ _ _) c.in_ok-write_u8.ensures.writes
    (first_refused is_sequence (counts_items view c.as_slice-children.result.now)
    c.from_residual-in_err-write_length.ensures.1 c.in_err-write_length.ensures.writes))

pub write_levels-returns : goal.write_levels-returns
unfolding list
write_levels-returns g t c =
    level_written kinds.OutOfRangeLength tree_step (omega arith)
    (second_written is_sequence (rw (← c.as_slice-children.ensures.value) at (view_parts c.args.tree.now))
    (unsigned_number_laws 1) (g.met.W.Writer.additive _ _ _) c.in_ok-write_u8.ensures.writes
    (second_written is_sequence (counts_items view c.as_slice-children.result.now) (unsigned_number_laws 4)
    (g.met.W.Writer.additive _ _ _) c.in_ok-write_length.ensures.writes
    (items_written _ view _ c.write_children.ensures)))

pub write_children-loop-child-init : goal.write_children-loop-child-init
write_children-loop-child-init g t c = no_items_written (tree_levels c.args.levels) view (g.met.W.Writer.nothing _)

pub write_children-loop-child-preserved : goal.write_children-loop-child-preserved
write_children-loop-child-preserved g t c =
    one_more_written (g.met.W.Writer.additive _ _ _) view c.args.children.now c.loop-child.child-index (omega arith)
    c.child-item.is c.loop-child.invariant c.in_ok-write_levels.ensures

pub write_children-returns-in_err-write_levels : goal.write_children-returns-in_err-write_levels
write_children-returns-in_err-write_levels g t c =
    items_refused (g.met.W.Writer.additive _ _ _) view c.args.children.now c.loop-child.child-index (omega arith)
    c.child-item.is
    (tree_laws _) c.from_residual.ensures.1 c.loop-child.invariant c.in_err-write_levels.ensures
