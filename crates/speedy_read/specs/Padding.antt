-- Whether bytes that are read are zeros.
use Rattle.std.specs.Prelude.{◌≡◌, ◌↔◌, ℕ, Bool, IsTrue, length}
use Rattle.speedy_layout.specs.Format.{Format, plain_format}
use Rattle.speedy_layout.specs.Padding.{zeros}

-- n bytes, seen as whether all are zeros
abbrev pub zero_test : ℕ → Format Bool
zero_test n = plain_format (λ are bytes. (length bytes ≡ n) × (IsTrue are ↔ (bytes ≡ zeros n)))
