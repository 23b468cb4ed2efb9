use Rattle.speedy_base.specs.DigitsLemmas.{AreBytes-slice}
use Rattle.speedy_write.proofs.ListLemmas.{byte_items_written}
use Rattle.speedy_write.proofs.numbers.U8Writable.write_in_bulk.Goals as goal

pub returns-clause-writes : goal.returns-clause-writes
returns-clause-writes g c = byte_items_written (AreBytes-slice _ c.type_inv.items) c.write_bytes.ensures.writes
