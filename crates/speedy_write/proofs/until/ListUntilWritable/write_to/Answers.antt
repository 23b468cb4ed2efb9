use Rattle.std.proofs.lemmas.List.{length-map}
use Rattle.speedy_write.proofs.UntilLemmas.{entries_refused, mark_written}
use Rattle.speedy_write.proofs.until.ListUntilWritable.write_to.Goals as goal

pub returns-in_err-write_entries : goal.returns-in_err-write_entries
returns-in_err-write_entries g c =
    entries_refused g.N.Prefix.numbers g.row.MARK g.T.Layout.layout (length-map _ _) c.from_residual.ensures.1
    (rw c.as_slice-entries.ensures.value at c.in_err-write_entries.ensures)

pub returns : goal.returns
returns g c =
    mark_written g.N.Prefix.numbers g.row.MARK g.T.Layout.layout (length-map _ _) (g.met.W.Writer.additive _ _ _)
    (rw c.as_slice-entries.ensures.value at c.in_ok-write_entries.ensures) c.write_number.ensures
