use Rattle.std.proofs.Common.{◌<◌, List, length, map, ap, refl, ◌∙◌, arith}
use Rattle.std.proofs.lemmas.List.{length_push}
use Rattle.speedy.specs.declared.error.ErrorKind.TheVariants as kinds
use Rattle.speedy.specs.Numbers.{unsigned_number_laws}
use Rattle.speedy.specs.ReadingLemmas.{Kept-after, none_so_far}
use Rattle.speedy.specs.ReadSequences.{refused_first, refused_second, got_both}
use Rattle.speedy_lines.specs.Trees.{Rose, view, tree_step, tree_laws}
use Rattle.speedy.specs.ReadLevels.{no_level_read, level_read}
use Rattle.speedy.specs.ReadItems.{list_composes, item_more, got_items, refused_item, refused_room}
use Rattle.speedy_lines.proofs.TreeLemmas.{tree_composes, view_made, seen_pushed}
use Rattle.speedy_lines.proofs.tree.+read.Goals as goal

pub read_levels-returns-then-levels-eq0 : goal.read_levels-returns-then-levels-eq0
read_levels-returns-then-levels-eq0 g t c =
    no_level_read kinds.OutOfRangeLength (tree_step _) (omega arith) c.error_out_of_range_length.ensures

pub read_levels-returns-in_err-value : goal.read_levels-returns-in_err-value
read_levels-returns-in_err-value g t c = level_read kinds.OutOfRangeLength (tree_step _) (omega arith)
    (refused_first (tree_composes _ _) c.from_residual.ensures.1 c.in_err-value.ensures)

pub read_levels-returns-in_err-length : goal.read_levels-returns-in_err-length
read_levels-returns-in_err-length g t c =
    let value = c.in_ok-value.ensures in
    level_read kinds.OutOfRangeLength (tree_step _)
    {new = g.R.LendingReader.state c.read_length.new.reader} (omega arith)
    (refused_second (tree_composes _ _) (unsigned_number_laws 1 _) {A = List Rose} {seen = λ rs. rs} value
    c.from_residual-in_err-length.ensures.1
    (refused_first (list_composes _ _) refl (rw value.kept.mode at c.in_err-length.ensures)))

pub read_levels-returns-in_err-children : goal.read_levels-returns-in_err-children
read_levels-returns-in_err-children g t c =
    let value = c.in_ok-value.ensures in
    let number = c.in_ok-length.ensures in
    level_read kinds.OutOfRangeLength (tree_step _)
    {new = g.R.LendingReader.state c.read_children.new.reader} (omega arith)
    (refused_second (tree_composes _ _) (unsigned_number_laws 1 _) {A = List Rose} {seen = λ rs. rs} value
    c.from_residual-in_err-children.ensures.1
    (refused_second (list_composes _ _) (unsigned_number_laws 4 _) (rw value.kept.mode at number) refl
    (rw (number.kept.mode, value.kept.mode) at c.in_err-children.ensures)))

pub read_levels-returns : goal.read_levels-returns
read_levels-returns g t c =
    let value = c.in_ok-value.ensures in
    let number = c.in_ok-length.ensures in
    level_read kinds.OutOfRangeLength (tree_step _)
    {new = g.R.LendingReader.state c.read_children.new.reader} (omega arith)
    (got_both (tree_composes _ _) {A = List Rose} {seen = λ rs. rs} {y = map view c.in_ok-children.children.items} value
    (got_both (list_composes _ _) (rw value.kept.mode at number)
    (rw (number.kept.mode, value.kept.mode) at c.in_ok-children.ensures) refl) (view_made _ _))

pub read_children-loop-i-init : goal.read_children-loop-i-init
read_children-loop-i-init g t c = rw c.new-children.ensures.items (refl, none_so_far refl)

pub read_children-loop-i-preserved : goal.read_children-loop-i-preserved
read_children-loop-i-preserved g t c =
    let so_far = c.loop-i.invariant.1 in
    let items = seen_pushed view _ c.in_ok-child.child c.in-Ok.ensures.pushed in (
      ap length items
          ∙ (length_push (map view c.loop-i.children.items) (view c.in_ok-child.child)
          ∙ omega (arith, c.loop-i.invariant.0)),
      item_more _ _ so_far (rw so_far.kept.mode at c.in_ok-child.ensures) items,
    )

pub read_children-returns-in_err-child : goal.read_children-returns-in_err-child
read_children-returns-in_err-child g t c =
    let so_far = c.loop-i.invariant.1 in
    let fewer : length (map view c.loop-i.children.items) < c.args.length =
    let count = c.loop-i.invariant.0 in
    omega arith in
    refused_item (tree_laws _ _) _ _ {new = g.R.LendingReader.state c.read_levels.new.reader} fewer so_far
    c.from_residual.ensures.1
    (rw so_far.kept.mode at c.in_err-child.ensures)

pub read_children-returns-in-Err : goal.read_children-returns-in-Err
read_children-returns-in-Err g t c =
    let so_far = c.loop-i.invariant.1 in
    refused_room _ _ _ (Kept-after so_far.kept c.in_ok-child.ensures.kept)
    (c.in_ok-child.ensures.answer.no_fault ∙ so_far.got.no_fault) refl c.error_out_of_memory.ensures

pub read_children-returns : goal.read_children-returns
read_children-returns g t c = got_items _ _ c.loop-i.invariant.1 (c.loop-i.invariant.0 ∙ omega arith)
