use Rattle.speedy_write.proofs.WholeLemmas.{borrowed_written}
use Rattle.speedy_write.proofs.whole.RefSliceWriteRest.write_rest.Goals as goal

pub returns : goal.returns
returns g c = borrowed_written g.T.Layout.layout c.write_items_to_end.ensures
