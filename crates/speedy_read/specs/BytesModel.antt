-- What the readers of bytes under a borrowed context show.
use Rattle.std.specs.Prelude.{ℕ, List}
use Rattle.std.specs.Borrow.{GName}
use Rattle.speedy_read.specs.declared.bytes_reader.BytesReader.{BytesReader}

-- the context that a reader borrows, and the remaining bytes
pub record BytesModel (C : Type 0) : Type 0 where
  pub context : C
  pub context_name : GName
  pub rest : List ℕ

abbrev pub bytes_model : {U C : Type 0} → BytesReader U C → BytesModel C
bytes_model r = record { context = r.context.now; context_name = r.context.ghost_name; rest = r.rest.now }
