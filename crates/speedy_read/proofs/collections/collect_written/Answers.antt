use Rattle.std.specs.Prelude.{◌≡◌}
use Rattle.std.proofs.Common.{sym, ◌∙◌, arith}
use Rattle.speedy_read.specs.ReadingLemmas.{Kept-after}
use Rattle.speedy_read.proofs.CollectionLemmas.{none_gathered, one_gathered, item_not_written, next_refused}
use Rattle.speedy_read.proofs.CollectionLemmas.{room_refused, all_gathered, on_success}
use Rattle.speedy_read.proofs.collections.collect_written.Goals as goal

pub loop-i-init : goal.loop-i-init
loop-i-init g c = none_gathered c.empty-items.ensures g.met.F.FromItems.none_written

pub returns-in_err-item : goal.returns-in_err-item
returns-in_err-item g c =
    let so_far = c.loop-i.invariant in
    next_refused {new = g.R.LendingReader.state c.read_from.new.reader} so_far (g.T.Layout.layout.laws _)
    (let t = c.loop-i-test.true in omega arith) c.from_residual.ensures.1
    (rw so_far.kept.mode at c.in_err-item.ensures)

pub returns-then-is_err : goal.returns-then-is_err
returns-then-is_err g c = room_refused _ (Kept-after c.loop-i.invariant.kept c.in_ok-item.ensures.kept)
    (c.in_ok-item.ensures.answer.no_fault ∙ c.loop-i.invariant.so_far.got.no_fault) c.error_out_of_memory.ensures

pub loop-i-preserved : goal.loop-i-preserved
loop-i-preserved g c =
    let so_far = c.loop-i.invariant in
    one_gathered so_far (rw so_far.kept.mode at c.in_ok-item.ensures)
    (on_success c.add.result (sym c.if-is_err.ensures.value) c.add.ensures so_far.so_far.items so_far.so_far.gathered)
    (λ strict. (c.accepts-is_written.ensures so_far.so_far.items so_far.so_far.gathered
    (so_far.so_far.written strict)).0 (c.if-not-is_written.false))

pub returns-then-not-is_written : goal.returns-then-not-is_written
returns-then-not-is_written g c =
    let so_far = c.loop-i.invariant in
    item_not_written so_far {next = c.add.new.self} (let t = c.loop-i-test.true in omega arith) c.requires
    (rw so_far.kept.mode at c.in_ok-item.ensures)
    (on_success c.add.result (sym c.if-is_err.ensures.value) c.add.ensures so_far.so_far.items so_far.so_far.gathered)
    (λ h. let accepted = (c.accepts-is_written.ensures so_far.so_far.items so_far.so_far.gathered
    (so_far.so_far.written c.requires)).1 h in let not_accepted = c.if-not-is_written.true in absurd (cc))
    c.error_not_written_form.ensures

pub returns : goal.returns
returns g c = let end : c.loop-i._i ≡ c.args.length = omega arith in rw (sym end) (all_gathered c.loop-i.invariant)
