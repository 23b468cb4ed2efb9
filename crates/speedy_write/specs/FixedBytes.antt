-- Values that are put into a buffer, each as as many bytes.
use Rattle.std.specs.Prelude.{◌≡◌, ℕ, ◌*◌, List, ◌++◌, length, map}
use Rattle.speedy_base.specs.declared.endianness.Endianness.{Endianness}
use Rattle.speedy_base.specs.Mode.{Mode}
use Rattle.speedy_layout.specs.Format.{Format, Each}
use Rattle.speedy_write.specs.Collectors.{BufferAppends}

-- their bytes, `size` of each, were put into the buffer from the one position to the other
pub record PutsAt {A V : Type 0} (F : Mode → Format V) (seen : A → V) (values : List A) (size : ℕ)
    (order : Endianness) (at : ℕ) (buffer : List ℕ) (end : ℕ) (after : List ℕ) : Type 0 where
  pub bytes : List ℕ
  pub count : length bytes ≡ length values * size
  pub are_put : BufferAppends at buffer bytes end after
  pub is_written : (mode : Mode) → order ≡ mode.order → Each (F mode).writes (map seen values) bytes

-- their bytes were put behind others
pub record PutsBehind {A V : Type 0} (F : Mode → Format V) (seen : A → V) (values : List A) (order : Endianness)
    (prefix after : List ℕ) : Type 0 where
  pub bytes : List ℕ
  pub all_is : after ≡ prefix ++ bytes
  pub is_written : (mode : Mode) → order ≡ mode.order → Each (F mode).writes (map seen values) bytes
