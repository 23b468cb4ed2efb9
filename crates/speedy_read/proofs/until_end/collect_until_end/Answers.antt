use Rattle.std.proofs.Common.{sym, arith}
use Rattle.speedy_read.proofs.CollectionLemmas.{on_success}
use Rattle.speedy_read.proofs.UntilEndLemmas.{where_none, no_items, one_item_more, one_too_many, no_room, item_refused}
use Rattle.speedy_read.proofs.UntilEndLemmas.{ended_before}
use Rattle.speedy_read.proofs.until_end.collect_until_end.Goals as goal

pub loop-whole-init : goal.loop-whole-init
loop-whole-init g c = (omega arith, no_items (omega arith) c.empty-whole.ensures)

pub returns-in_err-item : goal.returns-in_err-item
returns-in_err-item g c =
    let so_far = c.loop-whole.invariant.1 in
    let refused = c.in_err-item.ensures in
    item_refused so_far (omega arith) c.from_residual.ensures.1 refused.0 (rw so_far.so_far.kept.mode at refused.1)

pub returns-then-left-eq0 : goal.returns-then-left-eq0
returns-then-left-eq0 g c =
    let so_far = c.loop-whole.invariant.1 in
    let read = rw c.in-Some.is at c.in_ok-item.ensures in
    one_too_many so_far (omega arith) (rw so_far.so_far.kept.mode at read) c.error_out_of_range_length.ensures

pub returns-then-is_err : goal.returns-then-is_err
returns-then-is_err g c =
    let so_far = c.loop-whole.invariant.1 in
    let read = rw c.in-Some.is at c.in_ok-item.ensures in
    no_room so_far (rw so_far.so_far.kept.mode at read) c.error_out_of_memory.ensures

pub loop-whole-preserved : goal.loop-whole-preserved
loop-whole-preserved g c =
    let so_far = c.loop-whole.invariant.1 in
    let read = rw c.in-Some.is at c.in_ok-item.ensures in (
      omega arith,
      one_item_more so_far _ (omega arith) (rw so_far.so_far.kept.mode at read)
          (on_success c.add.result (sym c.if-is_err.ensures.value) c.add.ensures so_far.items so_far.gathered),
    )

pub returns : goal.returns
returns g c =
    let so_far = c.loop-whole.invariant.1 in
    let ended = where_none _ _ c.in_default.not-Some (rw so_far.so_far.kept.mode at c.in_ok-item.ensures) in
    ended_before so_far (omega arith) {e = ended.0} (g.T.Layout.layout.laws _) g.met.C.Context.keeps_eof ended.1 ended.2
