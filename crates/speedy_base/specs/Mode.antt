-- The mode of a context: what it asks of the bytes.
use Rattle.std.specs.Prelude.{Bool, true, false}
use Rattle.speedy_base.specs.declared.endianness.Endianness.{Endianness}

pub record Mode : Type 0 where
  -- the byte order of numbers
  pub order : Endianness
  -- of the encodings of a value, its canonical encoding alone is accepted
  pub strict : Bool

-- what asks for an order alone
abbrev pub plain_mode : Endianness → Mode
plain_mode order = record { order = order; strict = false }

-- what asks for an order and the canonical encoding
abbrev pub strict_mode : Endianness → Mode
strict_mode order = record { order = order; strict = true }
