use Rattle.speedy_write.specs.BehindCounts.{counts_items, items_written}
use Rattle.speedy_write.specs.Sequences.{is_sequence, first_refused, second_written}
use Rattle.speedy_write.proofs.lists.write_items_behind.Goals as goal

pub returns-in_err-write_number : goal.returns-in_err-write_number
returns-in_err-write_number g c =
    first_refused is_sequence (counts_items g.T.Layout.seen c.args.items.now) c.from_residual.ensures.1
    c.in_err-write_number.ensures

pub returns : goal.returns
returns g c =
    second_written is_sequence (counts_items g.T.Layout.seen c.args.items.now) g.N.Prefix.numbers.codec.laws
    (g.met.W.Writer.additive _ _ _) c.in_ok-write_number.ensures (items_written _ _ _ c.write_many.ensures)
