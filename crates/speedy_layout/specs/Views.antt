-- Views: bytes that are shown as the items that they encode under the little order.
use Rattle.std.specs.Prelude.{◌≡◌, ℕ, zero, suc, ◌*◌, ◌/◌, ◌<◌, ◌≤◌, List, [], ◌∷◌, length, take, drop, map, ℤ, refl}
use Rattle.std.proofs.Common.{sym, ◌∙◌, ap, subst, arith}
use Rattle.std.proofs.Math.Nat.{mul-div_cancel}
use Rattle.std.proofs.lemmas.List.{take-append-drop, length-append, length-take-le, length-drop}
use Rattle.std.specs.Int.{w8, cast_unsigned}
use Rattle.speedy_base.specs.declared.endianness.Endianness.{Endianness}
use Rattle.speedy_base.specs.declared.endianness.Endianness.TheVariants.{LittleEndian}
use Rattle.speedy_base.specs.Digits.{AreBytes, EncodesNumber}
use Rattle.speedy_base.specs.DigitsLemmas.{AreBytes-append_parts, EncodesNumber-one_byte, EncodesNumber-is_one_byte}
use Rattle.speedy_base.specs.Mode.{Mode, plain_mode}
use Rattle.speedy_layout.specs.Format.{Format, Each}
use Rattle.speedy_layout.specs.Numbers.{unsigned_number, signed_number}

-- count items of size bytes each, from the first byte on
abbrev pub decode_each : {A : Type 0} → (List ℕ → A) → ℕ → ℕ → List ℕ → List A
decode_each decoded size zero bytes = []
decode_each decoded size (suc n) bytes = decoded (take size bytes) ∷ decode_each decoded size n (drop size bytes)

-- as many items as the bytes have room for
unfoldable pub shown_items : {A : Type 0} → (List ℕ → A) → ℕ → List ℕ → List A
shown_items decoded size bytes = decode_each decoded size (length bytes / size) bytes

-- the bytes encode the items one after another, under the little order
abbrev pub EncodesLittle : {A V : Type 0} → (Mode → Format V) → (A → V) → List A → List ℕ → Type 0
EncodesLittle F seen items bytes = Each (F (plain_mode LittleEndian)).encodes (map seen items) bytes

-- ---- the items of a view

module _ {A : Type 0} (decoded : List ℕ → A) (size : ℕ) where
  length-decode_each : (n : ℕ) (bytes : List ℕ) → length (decode_each decoded size n bytes) ≡ n
  length-decode_each zero bytes = refl
  length-decode_each (suc n) bytes = ap suc (length-decode_each n (drop size bytes))

  pub length-shown_items : (bytes : List ℕ) → length (shown_items decoded size bytes) ≡ length bytes / size
  unfolding shown_items
  length-shown_items bytes = length-decode_each (length bytes / size) bytes

-- ---- sizes

-- the bytes of n items
pub so_many_items : (n size : ℕ) → 0 < size → n * size / size ≡ n
so_many_items n size some = mul-div_cancel n some

-- the bytes of n items show n of them
pub length-shown_many : {A : Type 0} (decoded : List ℕ → A) (size n : ℕ) (bytes : List ℕ) → 0 < size
    → length bytes ≡ n * size
    → length (shown_items decoded size bytes) ≡ n
length-shown_many decoded size n bytes some l =
    length-shown_items decoded size bytes ∙ (ap (λ k. k / size) l ∙ so_many_items n size some)

module _ {A V : Type 0} (decoded : List ℕ → A) (size : ℕ)
    (seen : A → V) (encodes : V → List ℕ → Type 0)
    (decodes : (b : List ℕ) → length b ≡ size → AreBytes b → encodes (seen (decoded b)) b) where
  each_decoded : (n : ℕ) (bytes : List ℕ) → length bytes ≡ n * size → AreBytes bytes
      → Each encodes (map seen (decode_each decoded size n bytes)) bytes
  each_decoded zero [] l are = refl
  each_decoded zero (b ∷ bytes) l are = absurd (omega arith)
  each_decoded (suc n) bytes l are =
      let enough : size ≤ length bytes = omega arith in
      let left = length-drop size bytes in
      let parts = AreBytes-append_parts (take size bytes) (drop size bytes)
      (subst AreBytes (sym (take-append-drop size bytes)) are) in
      record {
        prefix = take size bytes;
        suffix = drop size bytes;
        whole_is = sym (take-append-drop size bytes);
        first_is = decodes (take size bytes) (length-take-le size bytes enough) parts.0;
        second_is = each_decoded n (drop size bytes) (omega arith) parts.1;
      }

  -- bytes of a whole number of items encode the items that they show
  pub shown_items_encoded : (n : ℕ) (bytes : List ℕ) → 0 < size → length bytes ≡ n * size → AreBytes bytes
      → Each encodes (map seen (shown_items decoded size bytes)) bytes
  unfolding shown_items
  shown_items_encoded n bytes some l are =
      let many : length bytes / size ≡ n = ap (λ k. k / size) l ∙ so_many_items n size some in
      subst (λ k. Each encodes (map seen (decode_each decoded size k bytes)) bytes) (sym many)
      (each_decoded n bytes l are)

-- ---- bytes under each order

-- a byte is the same number under each order
byte_alike : (order : Endianness) (n : ℕ) (bytes : List ℕ) → EncodesNumber 1 LittleEndian n bytes
    → EncodesNumber 1 order n bytes
byte_alike order n [] h = let l = h.width_is in absurd (omega arith)
byte_alike order n (b ∷ bytes) h =
    let is = EncodesNumber-is_one_byte LittleEndian n (b ∷ bytes) h in
    let below : n < 256 = (subst AreBytes is h.are_bytes).0 in
    subst (EncodesNumber 1 order n) (sym is) (EncodesNumber-one_byte order n below)

pub byte_number_alike : (mode : Mode) (n : ℕ) (bytes : List ℕ)
    → (unsigned_number 1 (plain_mode LittleEndian)).encodes n bytes
    → (unsigned_number 1 mode).encodes n bytes
unfolding unsigned_number
byte_number_alike mode n bytes h = byte_alike mode.order n bytes h

pub signed_byte_alike : (mode : Mode) (z : ℤ) (bytes : List ℕ)
    → (signed_number w8 (plain_mode LittleEndian)).encodes z bytes
    → (signed_number w8 mode).encodes z bytes
unfolding signed_number
signed_byte_alike mode z bytes h = record {
  range = h.range;
  digits = byte_alike mode.order (cast_unsigned w8 z) bytes h.digits;
}

-- ---- for readers of views

-- items of one size have together n bytes
pub each_one_size : {V : Type 0} {R : V → List ℕ → Type 0} {size : ℕ}
    → ((v : V) (bytes : List ℕ) → R v bytes → length bytes ≡ size)
    → (vs : List V) (bytes : List ℕ) → Each R vs bytes → length bytes ≡ length vs * size
each_one_size one [] bytes h = let none = ap length h in omega arith
each_one_size one (v ∷ vs) bytes h =
    let first = one v h.prefix h.first_is in
    let more = each_one_size one vs h.suffix h.second_is in
    let l = ap length h.whole_is ∙ length-append h.prefix h.suffix in
    omega arith
