-- What the reader of owned values shows.
use Rattle.std.specs.Borrow.{GName}
use Rattle.speedy_read.specs.declared.owned_reader.OwnedReader.{OwnedReader}

-- the reader that it reads by
pub record OwnedModel (R : Type 0) : Type 0 where
  pub reader : R
  pub reader_name : GName

abbrev pub owned_model : {L R : Type 0} → OwnedReader L R → OwnedModel R
owned_model r = record { reader = r.reader.now; reader_name = r.reader.ghost_name }
