use Rattle.std.proofs.Common.{[], refl}
use Rattle.speedy_read.specs.ReadingLemmas.{none_so_far}
use Rattle.speedy_read.proofs.ListLemmas.{seen_added}
use Rattle.speedy_read.proofs.UntilLemmas.{number_refused, number_more, value_refused, value_more, no_room, mark_read}
use Rattle.speedy_read.proofs.until.ListUntilReadFrom.read_from.Goals as goal

pub returns-in_err-number : goal.returns-in_err-number
returns-in_err-number g c =
    number_refused _ g.N.Prefix.numbers.codec g.row.MARK g.T.Layout.layout [] (none_so_far refl)
    c.from_residual.ensures.1 c.in_err-number.ensures

pub loop-number-init : goal.loop-number-init
loop-number-init g c =
    rw c.new-entries.ensures.items (number_more _ g.N.Prefix.numbers.codec g.row.MARK g.T.Layout.layout []
    (none_so_far refl) c.in_ok-number.ensures)

pub returns-in_err-value : goal.returns-in_err-value
returns-in_err-value g c =
    let so_far = c.loop-number.invariant in
    value_refused _ g.N.Prefix.numbers.codec g.row.MARK g.T.Layout.layout _ _ c.loop-number-test.true so_far
    c.from_residual-in_err-value.ensures.1 (rw so_far.kept.mode at c.in_err-value.ensures)

pub returns-in-Err : goal.returns-in-Err
returns-in-Err g c =
    let so_far = c.loop-number.invariant in
    let numbers = g.N.Prefix.numbers.codec in
    let item = g.T.Layout.layout in
    no_room _ numbers g.row.MARK item _ (value_more _ numbers g.row.MARK item _ _ c.loop-number-test.true so_far
    (rw so_far.kept.mode at c.in_ok-value.ensures) refl) refl c.error_out_of_memory.ensures

pub returns-in_err-number-2 : goal.returns-in_err-number-2
returns-in_err-number-2 g c =
    let so_far = c.loop-number.invariant in
    let numbers = g.N.Prefix.numbers.codec in
    let item = g.T.Layout.layout in
    let more = value_more _ numbers g.row.MARK item _ _ c.loop-number-test.true so_far
    (rw so_far.kept.mode at c.in_ok-value.ensures) refl in
    number_refused _ numbers g.row.MARK item _ more c.from_residual-in_err-number-2.ensures.1
    (rw more.kept.mode at c.in_err-number-2.ensures)

pub loop-number-preserved : goal.loop-number-preserved
loop-number-preserved g c =
    let so_far = c.loop-number.invariant in
    let numbers = g.N.Prefix.numbers.codec in
    let item = g.T.Layout.layout in
    let more = value_more _ numbers g.row.MARK item _ _ c.loop-number-test.true so_far
    (rw so_far.kept.mode at c.in_ok-value.ensures)
    (seen_added (λ entry. (entry.0, g.T.Layout.seen entry.1)) _ _ _ c.in-Ok.ensures.pushed) in
    number_more _ numbers g.row.MARK item _ more (rw more.kept.mode at c.in_ok-number-2.ensures)

pub returns : goal.returns
returns g c =
    mark_read _ g.N.Prefix.numbers.codec g.row.MARK g.T.Layout.layout c.loop-number-test.false
    (rw c.new.ensures c.loop-number.invariant)
