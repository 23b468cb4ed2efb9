use Rattle.std.proofs.Common.{◌≡◌, ℕ, refl, arith}
use Rattle.speedy_base.specs.declared.endianness.Endianness.{Endianness}
use Rattle.speedy_base.specs.declared.endianness.Endianness.TheVariants.{LittleEndian, BigEndian}
use Rattle.speedy_layout.specs.Leaves.{order_number}
use Rattle.speedy_read.specs.Decoding.{refused_exactly}
use Rattle.speedy_read.proofs.leaves.EndiannessFromCode.decode.Goals as goal

neither : (n : ℕ) (order : Endianness) → n ≡ order_number order → (n ≡ 0 → ⊥) → (n ≡ 1 → ⊥) → ⊥
neither n LittleEndian e h k = h e
neither n BigEndian e h k = k e

pub returns-in_default : goal.returns-in_default
returns-in_default g c =
    refused_exactly _ _ _ _ (λ order h. neither _ order h (λ e. omega arith) (λ e. omega arith)) refl
    c.error_invalid_enum_variant.ensures
