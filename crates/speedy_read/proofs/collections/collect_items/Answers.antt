use Rattle.std.proofs.Common.{sym, ◌∙◌, ◌+◌, ◌*◌, ◌<◌, ℕ, length, subst, refl, arith}
use Rattle.speedy_read.specs.ReadingLemmas.{Kept-after, ends_input}
use Rattle.speedy_read.proofs.CollectionLemmas.{items_refused, none_gathered, some_gathered, some_refused, room_refused}
use Rattle.speedy_read.proofs.CollectionLemmas.{on_success}
use Rattle.speedy_read.proofs.ListLemmas.{refused_early}
use Rattle.speedy_read.proofs.collections.collect_items.Goals as goal

pub returns-then-ends_before : goal.returns-then-ends_before
returns-then-ends_before g c =
    let old = g.R.LendingReader.state c.args.reader.now in
    items_refused refl
    (refused_early (g.T.Layout.layout.laws old.mode) _
    (ends_input g.met.C.Context.keeps_eof c.error_end_of_input.ensures)
    (λ told fit. subst (λ (least : ℕ). length old.remaining < c.args.length * least)
    c.minimum_bytes_needed.ensures
    (c.ends_before.ensures.fewer c.if-ends_before.true told fit)))

pub loop-left-init : goal.loop-left-init
loop-left-init g c = (0, omega arith, none_gathered c.empty-whole.ensures g.met.F.FromItems.none_written)

pub returns-in_err-items : goal.returns-in_err-items
returns-in_err-items g c =
    let so_far = c.loop-left.invariant in
    let kept = so_far.2.kept in
    some_refused {new = g.R.LendingReader.state c.read_many_cow.new.reader} so_far.2 (g.T.Layout.layout.laws _)
    c.min-some.result (let m = c.min-some.ensures in let d = so_far.1 in omega arith) c.from_residual.ensures.1
    (rw kept.mode at c.in_err-items.ensures)

pub returns-then-is_err : goal.returns-then-is_err
returns-then-is_err g c =
    let so_far = c.loop-left.invariant.2 in
    room_refused _ (Kept-after so_far.kept c.in_ok-items.ensures.kept)
    (c.in_ok-items.ensures.answer.no_fault ∙ so_far.so_far.got.no_fault) c.error_out_of_memory.ensures

pub loop-left-preserved : goal.loop-left-preserved
loop-left-preserved g c =
    let so_far = c.loop-left.invariant.2 in
    let kept = so_far.kept in (
      c.loop-left.invariant.0 + c.min-some.result,
      let m = c.min-some.ensures in let d = c.loop-left.invariant.1 in omega arith,
      some_gathered so_far (λ items. items.values.items) c.min-some.result (rw kept.mode at c.in_ok-items.ensures)
          (on_success c.add_all.result (sym c.if-is_err.ensures.value) c.add_all.ensures so_far.so_far.items
          so_far.so_far.gathered)
          (λ strict. let asked = c.demands_written_form.ensures in
          let not_asked = c.if-demands_written_form.false in absurd (cc)),
    )
