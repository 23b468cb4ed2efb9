use Rattle.std.proofs.Common.{ℕ, take_all}
use Rattle.speedy_layout.specs.Until.{entry_codec}
use Rattle.speedy_write.proofs.ListLemmas.{no_items_written, one_more_written, items_refused}
use Rattle.speedy_write.proofs.until.write_entries.Goals as goal

pub loop-entry-init : goal.loop-entry-init
loop-entry-init g c =
    no_items_written (entry_codec g.N.Prefix.numbers.codec g.row.MARK g.T.Layout.layout).format
    (λ (it : ℕ × g.row.T.Denot). (it.0, g.T.Layout.seen it.1)) (g.met.W.Writer.nothing _)

pub loop-entry-preserved : goal.loop-entry-preserved
loop-entry-preserved g c =
    one_more_written (g.met.W.Writer.additive _ _ _) (λ (it : ℕ × g.row.T.Denot). (it.0, g.T.Layout.seen it.1))
    c.args.entries.now c.loop-entry.entry-index c.loop-entry-test.true c.entry-item.is c.loop-entry.invariant
    c.in_ok-write_entry.ensures

pub returns-in_err-write_entry : goal.returns-in_err-write_entry
returns-in_err-write_entry g c =
    items_refused (g.met.W.Writer.additive _ _ _) (λ (it : ℕ × g.row.T.Denot). (it.0, g.T.Layout.seen it.1))
    c.args.entries.now c.loop-entry.entry-index c.loop-entry-test.true c.entry-item.is
    (entry_codec g.N.Prefix.numbers.codec g.row.MARK g.T.Layout.layout).laws c.from_residual.ensures.1
    c.loop-entry.invariant c.in_err-write_entry.ensures

pub returns : goal.returns
returns g c =
    rw (take_all c.loop-entry.entry-index c.args.entries.now c.loop-entry-test.false) at c.loop-entry.invariant
