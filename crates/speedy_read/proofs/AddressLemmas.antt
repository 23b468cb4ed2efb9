-- How addresses are read.
use Rattle.std.specs.Prelude.{◌≡◌, ℕ, List, Bool, true, false, refl}
use Rattle.speedy_base.specs.Mode.{Mode}
use Rattle.speedy_layout.specs.Addresses.{address, address_tag, ip_address, ip_parts, ip_join}
use Rattle.speedy_layout.specs.Flags.{Branch, branch}
use Rattle.speedy_read.specs.Sequences.{Composes}
use Rattle.speedy_read.specs.Flags.{variant_composes}

-- an address of either kind is read as a tag, and then the address of the kind that it names
pub ip_address_composes : (mode : Mode)
    → Composes (address_tag.format mode) (branch (address 16 mode) (address 4 mode)) (ip_address mode)
    ip_join
ip_address_composes mode = variant_composes ip_parts suffix where
  suffix : (b : Bool) (w : Branch (List ℕ) (List ℕ) b) → let whole : (b : Bool) × Branch (List ℕ) (List ℕ) b = (b, w) in
      ip_parts (ip_join b w) ≡ whole
  suffix true w = refl
  suffix false w = refl
