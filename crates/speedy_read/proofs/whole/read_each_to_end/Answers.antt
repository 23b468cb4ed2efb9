use Rattle.std.proofs.Common.{sym, ◌∙◌, refl, arith}
use Rattle.speedy_read.proofs.WholeLemmas.{no_items_taken, item_not_whole, item_takes_none, item_wants_memory}
use Rattle.speedy_read.proofs.WholeLemmas.{pushed, item_taken, items_whole}
use Rattle.speedy_read.proofs.whole.read_each_to_end.Goals as goal

pub loop-left-init : goal.loop-left-init
loop-left-init g c = no_items_taken c.new-items.ensures.items c.left-left.ensures

pub returns-in_err-item : goal.returns-in_err-item
returns-in_err-item g c =
    let memory = g.met.R.MemoryReader.in_memory in
    let taken = c.loop-left.invariant in
    item_not_whole g.T.Layout.layout _ taken (memory c.args.reader.now) c.loop-left-test.true c.from_residual.ensures.1
    (memory _) (memory _) (rw taken.so_far.kept.mode at c.in_err-item.ensures)

pub returns-then-behind-left : goal.returns-then-behind-left
returns-then-behind-left g c =
    let memory = g.met.R.MemoryReader.in_memory in
    let taken = c.loop-left.invariant in
    item_takes_none g.T.Layout.layout _ taken (memory c.args.reader.now)
    (rw taken.so_far.kept.mode at c.in_ok-item.ensures) c.loop-left-test.true (memory c.loop-left.reader).tells
    (sym c.if-behind-left.true ∙ c.left-behind.ensures) c.error_out_of_range_length.ensures

pub returns-then-is_err : goal.returns-then-is_err
returns-then-is_err g c =
    let memory = g.met.R.MemoryReader.in_memory in
    let taken = c.loop-left.invariant in
    item_wants_memory g.T.Layout.layout _ taken (memory c.args.reader.now)
    (rw taken.so_far.kept.mode at c.in_ok-item.ensures) c.error_out_of_memory.ensures

pub loop-left-smaller : goal.loop-left-smaller
loop-left-smaller g c =
    let taken = c.loop-left.invariant in
    (item_taken g.T.Layout.layout _ taken (g.met.R.MemoryReader.in_memory c.args.reader.now)
    (rw taken.so_far.kept.mode at c.in_ok-item.ensures)
    (g.met.R.MemoryReader.in_memory c.loop-left.reader).tells c.if-behind-left.false c.left-behind.ensures refl).1

pub loop-left-preserved : goal.loop-left-preserved
loop-left-preserved g c =
    let taken = c.loop-left.invariant in
    (item_taken g.T.Layout.layout _ taken (g.met.R.MemoryReader.in_memory c.args.reader.now)
    (rw taken.so_far.kept.mode at c.in_ok-item.ensures)
    (g.met.R.MemoryReader.in_memory c.loop-left.reader).tells c.if-behind-left.false c.left-behind.ensures
    (pushed _ c.push.result (sym c.if-is_err.ensures.value) c.push.ensures.items)).0

pub returns : goal.returns
returns g c =
    let memory = g.met.R.MemoryReader.in_memory in
    items_whole g.T.Layout.layout _ c.loop-left.invariant (memory c.args.reader.now)
    (let none = c.loop-left-test.false in omega arith) refl
