use Rattle.speedy_write.specs.Sequences.{Writes-from}
use Rattle.speedy_write.proofs.WholeLemmas.{items_written, items_refused}
use Rattle.speedy_write.proofs.whole.write_items_to_end.Goals as goal

pub returns-then-take_no_byte : goal.returns-then-take_no_byte
returns-then-take_no_byte g c =
    let tested = c.take_no_byte.ensures in
    items_refused g.T.Layout.seen g.T.Layout.layout _ (tested.none c.if-take_no_byte.true)
    c.error_out_of_range_length.ensures tested.state (tested.joins _ _ (g.met.W.Writer.nothing _))

pub returns : goal.returns
returns g c =
    let tested = c.take_no_byte.ensures in
    Writes-from tested.state (λ b. tested.joins b _)
    (items_written g.T.Layout.seen g.T.Layout.layout _ (rw tested.state (tested.some c.if-take_no_byte.false))
    c.write_many.ensures)
