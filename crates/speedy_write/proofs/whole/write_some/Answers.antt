use Rattle.speedy_write.specs.Sequences.{Writes-from}
use Rattle.speedy_write.proofs.GrowingLemmas.{some_written, none_refused}
use Rattle.speedy_write.proofs.whole.write_some.Goals as goal

pub returns-then-takes_no_byte : goal.returns-then-takes_no_byte
returns-then-takes_no_byte g c =
    let tested = c.takes_no_byte.ensures in
    none_refused g.A.Layout.layout (tested.none c.if-takes_no_byte.true) c.error_out_of_range_length.ensures
    tested.state (tested.joins _ _ (g.met.W.Writer.nothing _))

pub returns : goal.returns
returns g c =
    let tested = c.takes_no_byte.ensures in
    Writes-from tested.state (λ b. tested.joins b _)
    (some_written g.A.Layout.layout (rw tested.state (tested.some c.if-takes_no_byte.false)) c.write_value.ensures)
