-- What a line of the program says.
use Rattle.std.specs.Prelude.{◌≡◌, ◌≢◌, ℕ, List, [], ◌∷◌, ◌++◌, ◌⊎◌, Ok, codes}
use Rattle.hex.specs.Hex.{decode_of}
use Rattle.speedy.specs.declared.endianness.Endianness.TheVariants.{LittleEndian, BigEndian}
use Rattle.speedy.specs.Mode.{Mode, plain_mode, strict_mode}
use Rattle.speedy_lines.specs.declared.line.LineOrder.{LineOrder}
use Rattle.speedy_lines.specs.declared.line.LineOrder.TheVariants as orders
use Rattle.speedy_lines.specs.declared.names.TypeName.{TypeName}
use Rattle.speedy_lines.specs.Names.{named}

-- the space between two fields
abbrev pub space : ℕ
space = 32

-- the first field: the order
abbrev pub order_text : LineOrder → List ℕ
order_text orders.LittleEndian = codes "le"
order_text orders.BigEndian = codes "be"
order_text orders.StrictLittleEndian = codes "sle"
order_text orders.StrictBigEndian = codes "sbe"

-- what an order asks of the bytes: the order of numbers, and by `sle` and `sbe` the canonical encoding alone
abbrev pub mode_of : LineOrder → Mode
mode_of orders.LittleEndian = plain_mode LittleEndian
mode_of orders.BigEndian = plain_mode BigEndian
mode_of orders.StrictLittleEndian = strict_mode LittleEndian
mode_of orders.StrictBigEndian = strict_mode BigEndian

-- the second field: the type
abbrev pub name_text : TypeName → List ℕ
name_text name = (named name).text

-- the third field: an even number of hexadecimal digits of either case, two for each byte, or `-` for no bytes
abbrev pub IsHex : List ℕ → List ℕ → Type 0
IsHex hex bytes = ((hex ≡ codes "-") × (bytes ≡ [])) ⊎ ((hex ≢ []) × (decode_of hex ≡ Ok bytes))

-- the line is these three fields, with one space between two of them
pub record IsLine (line : List ℕ) (order : LineOrder) (name : TypeName) (bytes : List ℕ) : Type 0 where
  pub hex : List ℕ
  pub line_is : line ≡ order_text order ++ space ∷ (name_text name ++ space ∷ hex)
  pub hex_is : IsHex hex bytes

-- the line is not of this form
abbrev pub IsBad : List ℕ → Type 0
IsBad line = (order : LineOrder) (name : TypeName) (bytes : List ℕ) → IsLine line order name bytes → ⊥
