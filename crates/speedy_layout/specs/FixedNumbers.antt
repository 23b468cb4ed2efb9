-- Numbers of a fixed number of bytes, as what is read and written in bulk asks of them.
use Rattle.std.specs.Prelude.{◌≡◌, ℕ, ◌*◌, ◌^◌, ◌<◌, ◌≤◌, true, List, [], ◌∷◌, length, refl}
use Rattle.std.proofs.Common.{◌∙◌, ap, arith}
use Rattle.std.proofs.lemmas.List.{length-append}
use Rattle.std.specs.Int.{Width, w8, w16, w32, w64, w128, byte_len, cast_signed, is_in_range}
use Rattle.speedy_base.specs.declared.endianness.Endianness.{Endianness}
use Rattle.speedy_base.specs.Digits.{AreBytes, number}
use Rattle.speedy_base.specs.Mode.{Mode, plain_mode}
use Rattle.speedy_base.specs.SignedLemmas.{EncodesSigned-cast_signed}
use Rattle.speedy_base.specs.DigitsLemmas.{byte_len-above}
use Rattle.speedy_layout.specs.Format.{Format, Each}
use Rattle.speedy_layout.specs.Numbers.{unsigned_codec, unsigned_number, signed_codec, signed_number}
use Rattle.speedy_layout.specs.Laws.{Codec}

-- how values are encoded in an order, whatever else is asked of the bytes
abbrev pub encoded_in : {V : Type 0} → (Mode → Format V) → Endianness → V → List ℕ → Type 0
encoded_in F order = (F (plain_mode order)).encodes

-- values that are encoded by `size` bytes, which the order alone decides
pub record IsFixed {V : Type 0} (size : ℕ) (F : Mode → Format V) : Type 0 where
  pub has_bytes : 0 < size
  pub at_most : size ≤ 16
  pub encodes : (mode : Mode) (v : V) (bytes : List ℕ) → (F mode).encodes v bytes
      → encoded_in F mode.order v bytes
  pub writes : (mode : Mode) (v : V) (bytes : List ℕ) → encoded_in F mode.order v bytes
      → (F mode).writes v bytes
  pub length_is : (order : Endianness) (v : V) (bytes : List ℕ) → encoded_in F order v bytes → length bytes ≡ size
  -- no bytes are refused but for their number
  pub none_malformed : (mode : Mode) (bytes : List ℕ) → (F mode).malformed bytes → ⊥

-- any bytes of that size encode the number that is decoded of them
abbrev pub Decodes : {A V : Type 0} → ℕ → (Mode → Format V) → (A → V) → (Endianness → List ℕ → A) → Type 0
Decodes size F seen decoded = (order : Endianness) (bytes : List ℕ) → length bytes ≡ size → AreBytes bytes
    → encoded_in F order (seen (decoded order bytes)) bytes

-- numbers that any bytes of a size encode, which is the least size of their layout
pub record AreFixed {V : Type 0} (size : ℕ) (layout : Codec V) (shown : Endianness → List ℕ → V) : Type 0 where
  pub least_is : layout.least ≡ size
  pub is_fixed : IsFixed size layout.format
  pub decodes : Decodes size layout.format (λ v. v) shown

-- n values have n times as many bytes as one
pub each_length : {V : Type 0} {size : ℕ} {F : Mode → Format V} → IsFixed size F
    → (order : Endianness) (vs : List V) (bytes : List ℕ) → Each (encoded_in F order) vs bytes
    → length bytes ≡ length vs * size
each_length fixed order [] bytes h = ap length h ∙ omega arith
each_length {size = size} fixed order (v ∷ vs) bytes h =
    let one = fixed.length_is order v h.prefix h.first_is in
    let more = each_length fixed order vs h.suffix h.second_is in
    let l = ap length h.whole_is ∙ length-append h.prefix h.suffix in
    omega (arith, one, more, l)

-- ---- what views ask of them

pub few_bytes : {V : Type 0} {size : ℕ} {F : Mode → Format V} → IsFixed size F → size < 2 ^ 32
few_bytes fixed = omega (arith, fixed.at_most)

pub size_of_fixed : {V : Type 0} {size : ℕ} {F : Mode → Format V} → IsFixed size F
    → (mode : Mode) (v : V) (bytes : List ℕ) → (F mode).encodes v bytes → length bytes ≡ size
size_of_fixed fixed mode v bytes h = fixed.length_is mode.order v bytes (fixed.encodes mode v bytes h)

byte_len-at_most : (w : Width) → byte_len w ≤ 16
byte_len-at_most w8 = omega arith
byte_len-at_most w16 = omega arith
byte_len-at_most w32 = omega arith
byte_len-at_most w64 = omega arith
byte_len-at_most w128 = omega arith

-- ---- unsigned numbers of any size, and the signed ones of each width

pub unsigned_fixed : (size : ℕ) → is_in_range 1 16 size ≡ true → AreFixed size (unsigned_codec size) number
unfolding unsigned_number
unsigned_fixed size few =
    let within : (1 ≤ size) × (size ≤ 16) = grind arith in
    record {
      least_is = refl;
      is_fixed = record {
        has_bytes = omega (arith, within.0);
        at_most = within.1;
        encodes = λ mode v bytes h. h;
        writes = λ mode v bytes h. h;
        length_is = λ order v bytes h. h.width_is;
        none_malformed = λ _ _ h. h;
      };
      decodes = λ order bytes l are. record { width_is = l; are_bytes = are; value_is = refl };
    }

pub signed_fixed : (w : Width)
    → AreFixed (byte_len w) (signed_codec w) (λ order bytes. cast_signed w (number order bytes))
unfolding signed_number
signed_fixed w = record {
  least_is = refl;
  is_fixed = record {
    has_bytes = let l = byte_len-above w in omega arith;
    at_most = byte_len-at_most w;
    encodes = λ mode v bytes h. h;
    writes = λ mode v bytes h. h;
    length_is = λ order v bytes h. h.digits.width_is;
    none_malformed = λ _ _ h. h;
  };
  decodes = λ order bytes l are. EncodesSigned-cast_signed w order (number order bytes) bytes
      (record { width_is = l; are_bytes = are; value_is = refl });
}
