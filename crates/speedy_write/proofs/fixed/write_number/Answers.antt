use Rattle.speedy_write.specs.Sequences.{form_written}
use Rattle.speedy_write.proofs.fixed.write_number.Goals as goal

pub returns : goal.returns
returns g c = record {
  writes = form_written g.T.Layout.layout.laws (c.put_number.ensures _ c.endianness.ensures)
      c.write_bytes.ensures.writes;
  full = c.write_bytes.ensures.full;
}
