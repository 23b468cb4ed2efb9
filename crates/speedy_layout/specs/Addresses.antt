-- Addresses: their octets. One of either kind has a tag before it.
use Rattle.std.specs.Prelude.{◌≡◌, ℕ, ◌+◌, ◌-◌, ◌*◌, ◌/◌, ◌%◌, List, [], ◌∷◌, length, Bool, true, false, ◌⊎◌, refl}
use Rattle.std.specs.Net.Addr.{ipv4_octets, ipv6_octets, octets_of, segments_of}
use Rattle.std.specs.declared.net.ip_addr.IpAddr.{IpAddr}
use Rattle.std.specs.declared.net.ip_addr.IpAddr.TheVariants.{V4, V6}
use Rattle.std.proofs.Common.{sym, ◌∙◌, ap₂, arith, inl, inr}
use Rattle.speedy_base.specs.declared.endianness.Endianness.TheVariants.{BigEndian}
use Rattle.speedy_base.specs.declared.error.ErrorKind.TheVariants as kinds
use Rattle.speedy_base.specs.Digits.{EncodesNumber, AreBytes}
use Rattle.speedy_base.specs.DigitsLemmas.{EncodesNumber-same_bytes, EncodesNumber-same_value}
use Rattle.speedy_base.specs.Mode.{Mode}
use Rattle.speedy_layout.specs.Format.{Format}
use Rattle.speedy_layout.specs.Laws.{Codec}
use Rattle.speedy_layout.specs.Codes.{Codebook, IsCode, coding_codec, exact_code, exact_is_code, one_kind}
use Rattle.speedy_layout.specs.Flags.{Branch, variant_codec}
use Rattle.speedy_layout.specs.Numbers.{unsigned_number, unsigned_codec}

-- octets, whose number has them as its digits, greatest first
abbrev pub octets_code : ℕ → Codebook ℕ (List ℕ)
octets_code width = exact_code (EncodesNumber width BigEndian) (λ kind. ⊥)

pub octets_is_code : (width : ℕ) (mode : Mode) → IsCode (octets_code width) (unsigned_number width mode)
octets_is_code width mode =
    exact_is_code (λ kind h. absurd h) (λ n v w h k. EncodesNumber-same_bytes width BigEndian n v w h k)
    (λ n m v h k. EncodesNumber-same_value width BigEndian n m v h k)

-- addresses of n octets: their number
abbrev pub address_codec : ℕ → Codec (List ℕ)
address_codec width = coding_codec (octets_code width) (unsigned_codec width) (octets_is_code width)

abbrev pub address : ℕ → Mode → Format (List ℕ)
address width = (address_codec width).format

-- octets that are joined in twos and taken apart again
pub octets_of-segments_of : (k : ℕ) (octets : List ℕ) → length octets ≡ k * 2 → AreBytes octets
    → octets_of (segments_of octets) ≡ octets
octets_of-segments_of k [] l h = refl
octets_of-segments_of k (a ∷ []) l h = absurd (omega arith)
octets_of-segments_of k (a ∷ b ∷ octets) l h =
    let first : (a * 256 + b) / 256 ≡ a = omega (arith, h.1.0) in
    let second : (a * 256 + b) % 256 ≡ b = omega (arith, h.1.0) in
    ap₂ ◌∷◌ first (ap₂ ◌∷◌ second (octets_of-segments_of (k - 1) octets (omega arith) h.1.1))

-- the number that stands for the kind: 1 for an address of 16 octets, 0 for one of 4
abbrev pub address_tag_number : Bool → ℕ
address_tag_number true = 1
address_tag_number false = 0

abbrev pub address_tag_code : Codebook ℕ Bool
address_tag_code = exact_code (λ n is_long. n ≡ address_tag_number is_long) (λ kind. kind ≡ kinds.InvalidEnumVariant)

one_tag : (a b : Bool) → address_tag_number a ≡ address_tag_number b → a ≡ b
one_tag true true e = refl
one_tag false false e = refl
one_tag true false e = absurd (cc)
one_tag false true e = absurd (cc)

pub address_tag_is_code : (mode : Mode) → IsCode address_tag_code (unsigned_number 1 mode)
address_tag_is_code mode =
    exact_is_code (one_kind kinds.InvalidEnumVariant tt) (λ n v w h k. one_tag v w (sym h ∙ k)) (λ n m v h k. h ∙ sym k)

-- the kind of an address: one byte, which has the number of one
abbrev pub address_tag : Codec Bool
address_tag = coding_codec address_tag_code (unsigned_codec 1) address_tag_is_code

-- the octets of an address, 4 or 16 of them
abbrev pub ip_octets : IpAddr → List ℕ ⊎ List ℕ
ip_octets (V4 a) = inl (ipv4_octets a)
ip_octets (V6 a) = inr (ipv6_octets a)

abbrev pub ip_parts : List ℕ ⊎ List ℕ → (is_long : Bool) × Branch (List ℕ) (List ℕ) is_long
ip_parts (inl octets) = (false, octets)
ip_parts (inr octets) = (true, octets)

abbrev pub ip_join : (is_long : Bool) → Branch (List ℕ) (List ℕ) is_long → List ℕ ⊎ List ℕ
ip_join false octets = inl octets
ip_join true octets = inr octets

pub ip_back : (v : List ℕ ⊎ List ℕ) → ip_join (ip_parts v).0 (ip_parts v).1 ≡ v
ip_back (inl octets) = refl
ip_back (inr octets) = refl

-- an address of either kind: 0 and the address of 4 octets, or 1 and that of 16
abbrev pub ip_address_codec : Codec (List ℕ ⊎ List ℕ)
ip_address_codec =
    variant_codec ip_parts ip_join ip_back address_tag (address_codec 16) (address_codec 4) 4 (omega arith)
    (omega arith)

abbrev pub ip_address : Mode → Format (List ℕ ⊎ List ℕ)
ip_address = ip_address_codec.format
