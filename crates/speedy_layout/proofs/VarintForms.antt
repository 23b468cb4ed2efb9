-- What the code of `VarInt64` cites of its format.
use Rattle.std.specs.Prelude.{ℕ, ◌/◌, ◌%◌, ◌^◌, ◌<◌, List, ◌∷◌, refl}
use Rattle.std.proofs.Common.{arith}
use Rattle.speedy_base.specs.declared.endianness.Endianness.TheVariants.{LittleEndian}
use Rattle.speedy_base.specs.Digits.{EncodesNumber}
use Rattle.speedy_base.specs.Mode.{Mode}
use Rattle.speedy_layout.specs.Codes.{coding, Accepts-means}
use Rattle.speedy_layout.specs.Varint.{IsFirstByte, IsFewest, varint, varint_code, capacity-below_64, prefixed_written}
use Rattle.speedy_layout.specs.Varint.{prefixed-is, varint_is_code}

-- the canonical encoding of an integer, where they are the fewest
pub varint-written : (mode : Mode) (k n first : ℕ) (tail : List ℕ) → IsFewest k n
    → IsFirstByte k (n / 256 ^ k) first
    → EncodesNumber k LittleEndian (n % 256 ^ k) tail → (varint mode).writes n (first ∷ tail)
unfolding varint coding
varint-written mode k n first tail fewest h digits = record {
  code = ((k, n / 256 ^ k), n % 256 ^ k);
  code_is = prefixed_written mode k (n / 256 ^ k) (n % 256 ^ k) first tail h digits;
  stands = (fewest, refl, refl);
}

-- a number that has an encoding is below 2 ^ 64
pub varint-below_64 : (mode : Mode) (n : ℕ) (bytes : List ℕ) → (varint mode).encodes n bytes → n < 2 ^ 64
unfolding varint coding
varint-below_64 mode n bytes h =
    let is = prefixed-is mode h.code bytes h.code_is in
    let means =
    Accepts-means mode.strict varint_code h.code n ((varint_is_code mode).chosen_means h.code n) h.stands in
    capacity-below_64 h.code.0.0 n is.first_is.at_most_eight (let l = is.holds in omega arith)
