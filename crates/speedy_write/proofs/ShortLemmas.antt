-- How many bytes values take that are short.
use Rattle.std.specs.Prelude.{ℕ, ◌^◌, ◌<◌, List, [], ◌∷◌, refl}
use Rattle.std.proofs.Common.{arith, inl, inr}
use Rattle.speedy_base.specs.Digits.{digits}
use Rattle.speedy_base.specs.DigitsLemmas.{EncodesNumber-digits, EncodesNumber-one_byte, length-digits}
use Rattle.speedy_base.specs.Mode.{Mode}
use Rattle.speedy_layout.specs.Addresses.{address_codec, ip_address}
use Rattle.speedy_layout.specs.Codes.{coding}
use Rattle.speedy_layout.specs.Encoding.{Encodes}
use Rattle.speedy_layout.specs.Format.{Parts-joined}
use Rattle.speedy_layout.specs.Numbers.{unsigned_codec, unsigned_number}
use Rattle.speedy_layout.specs.Sequences.{sequence}
use Rattle.speedy_write.specs.Counting.{HasSize}

-- an address of 4 octets, which are encoded as a number, takes five bytes
pub short_address_takes : (mode : Mode) (octets : List ℕ) (n : ℕ) → n < 2 ^ 32
    → Encodes (unsigned_codec 4) (address_codec 4) n octets → HasSize (ip_address mode).writes (inl octets) 5
unfolding sequence coding unsigned_number
short_address_takes mode octets n small is =
    let number = digits mode.order 4 n in (
      0 ∷ number,
      Parts-joined (0 ∷ []) number
          (record { code = 0; code_is = EncodesNumber-one_byte mode.order 0 (omega arith); stands = refl })
          (is.written mode number (EncodesNumber-digits 4 mode.order n (omega (arith, small)))),
      omega (arith, length-digits mode.order 4 n),
    )

-- and one of 16 takes seventeen
pub long_address_takes : (mode : Mode) (octets : List ℕ) (n : ℕ) → n < 2 ^ 128
    → Encodes (unsigned_codec 16) (address_codec 16) n octets → HasSize (ip_address mode).writes (inr octets) 17
unfolding sequence coding unsigned_number
long_address_takes mode octets n small is =
    let number = digits mode.order 16 n in (
      1 ∷ number,
      Parts-joined (1 ∷ []) number
          (record { code = 1; code_is = EncodesNumber-one_byte mode.order 1 (omega arith); stands = refl })
          (is.written mode number (EncodesNumber-digits 16 mode.order n (omega (arith, small)))),
      omega (arith, length-digits mode.order 16 n),
    )
