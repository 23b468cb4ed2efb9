-- What a `VarInt64` stands for, by zigzag where the integer is signed.
use Rattle.std.specs.Prelude.{ℕ, ◌+◌, ◌*◌, ℤ, pos, negsuc}
use Rattle.speedy_layout.specs.declared.varint.VarInt64.{VarInt64}

-- the number that is encoded
abbrev pub varint_number : VarInt64 → ℕ
varint_number v = v.0

-- signed numbers by turns: 0, -1, 1, -2, .. are 0, 1, 2, 3, ..
abbrev pub zigzag : ℤ → ℕ
zigzag (pos n) = 2 * n
zigzag (negsuc n) = 2 * n + 1
