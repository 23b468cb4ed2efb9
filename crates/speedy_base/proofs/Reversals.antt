-- That std's reversal of a number's bytes is the number in the other order, of a signed one too; and what is read in
-- an order is turned for it.
use Rattle.std.specs.Prelude.{◌≡◌, ℕ, ℤ, List, [], ◌∷◌, length, map, reverse}
use Rattle.std.proofs.Common.{refl, sym, ◌∙◌, ap, ap₂}
use mir.ValLaws.{to_z-of_z}
use Rattle.std.specs.Int.{Width, byte_len, cast_unsigned, cast_signed, swap_bytes, from_le_bytes}
use Rattle.std.specs.Int.RustNames.{FitsSigned}
use Rattle.speedy_base.specs.declared.endianness.Endianness.{Endianness}
use Rattle.speedy_base.specs.declared.endianness.Endianness.TheVariants.{LittleEndian, BigEndian}
use Rattle.speedy_base.proofs.Conversions.{swapped-swap_bytes}
use Rattle.speedy_base.specs.Digits.{AreBytes, digits, little_number, number, swapped, turned_in, width_of}
use Rattle.speedy_base.specs.DigitsLemmas.{little_digits-little_number, little_number-from_le_bytes, turned-swapped}
use Rattle.speedy_base.specs.Signed.{swapped_signed}

pub swapped_signed-swap_bytes : (w : Width) (z : ℤ)
    → cast_signed w (swap_bytes w (cast_unsigned w z)) ≡ swapped_signed BigEndian w z
unfolding swapped_signed
swapped_signed-swap_bytes w z = ap (cast_signed w) (swapped-swap_bytes w BigEndian (cast_unsigned w z) refl)

-- and so where a function answers it
pub swapped_signed-answered : (w : Width) (y z : ℤ) → FitsSigned w y → FitsSigned w z
    → y ≡ cast_signed w (swap_bytes w (cast_unsigned w (cast_signed w (cast_unsigned w z))))
    → cast_signed w (cast_unsigned w y) ≡ swapped_signed BigEndian w z
swapped_signed-answered w y z f g e =
    to_z-of_z w y f
    ∙ (e ∙ (ap (λ (x : ℤ). cast_signed w (swap_bytes w (cast_unsigned w x))) (to_z-of_z w z g)
    ∙ swapped_signed-swap_bytes w z))

-- an unsigned number of n bytes
pub swapped-swap_bytes_of : (size n : ℕ) → byte_len (width_of size) ≡ size
    → swapped BigEndian size n ≡ swap_bytes (width_of size) n
swapped-swap_bytes_of size n is =
    ap (λ (k : ℕ). swapped BigEndian k n) (sym is) ∙ sym (swapped-swap_bytes (width_of size) BigEndian n refl)

-- ---- numbers that are turned for an order

pub turned-big : {A : Type 0} (order : Endianness) (reversed : A → A) (x : A) → order ≡ BigEndian
    → turned_in order reversed x ≡ reversed x
unfolding turned_in
turned-big order reversed x is = ap (λ (o : Endianness). turned_in o reversed x) is

pub turned-little : {A : Type 0} (order : Endianness) (reversed : A → A) (x : A) → order ≡ LittleEndian
    → turned_in order reversed x ≡ x
unfolding turned_in
turned-little order reversed x is = ap (λ (o : Endianness). turned_in o reversed x) is

-- they are swapped, those of a list too
pub turned-swapped_signed : (order : Endianness) (w : Width) (z : ℤ)
    → turned_in order (swapped_signed BigEndian w) z ≡ swapped_signed order w z
unfolding turned_in swapped_signed
turned-swapped_signed LittleEndian w z = refl
turned-swapped_signed BigEndian w z = refl

pub map-turned : (order : Endianness) (size : ℕ) (ns : List ℕ)
    → map (turned_in order (swapped BigEndian size)) ns ≡ map (swapped order size) ns
map-turned order size [] = refl
map-turned order size (n ∷ ns) = ap₂ ◌∷◌ (turned-swapped order size n) (map-turned order size ns)

pub map-turned_signed : (order : Endianness) (w : Width) (zs : List ℤ)
    → map (turned_in order (swapped_signed BigEndian w)) zs ≡ map (swapped_signed order w) zs
map-turned_signed order w [] = refl
map-turned_signed order w (z ∷ zs) =
    ap₂ ◌∷◌ (turned-swapped_signed order w z) (map-turned_signed order w zs)

-- ---- what is read and written

-- what std reads from an array that was copied
pub copied-reads : (size : ℕ) (items bytes : List ℕ) → items ≡ bytes → length bytes ≡ size
    → byte_len (width_of size) ≡ size → from_le_bytes (width_of size) items ≡ little_number bytes
copied-reads size items bytes same sized is = ap (from_le_bytes (width_of size)) same
    ∙ little_number-from_le_bytes (width_of size) bytes (sized ∙ sym is)

-- a number in an order is that of its digits least first, swapped
pub number-swapped : (order : Endianness) (bytes : List ℕ) → AreBytes bytes
    → number order bytes ≡ swapped order (length bytes) (little_number bytes)
unfolding number swapped digits
number-swapped LittleEndian bytes are = refl
number-swapped BigEndian bytes are = ap (λ bs. little_number (reverse bs)) (sym (little_digits-little_number bytes are))

-- what is reversed and turned, and what is read in an order
pub ruleset reversals = (
  swapped-swap_bytes_of,
  number-swapped,
  turned-swapped,
  map-turned,
  swapped_signed-answered,
  turned-swapped_signed,
  map-turned_signed,
)
