-- What is seen of a buffer between a device and its readers.
use Rattle.std.specs.Prelude.{ℕ, List, ◌++◌, length, take, drop}

-- the bytes that are kept, in the order in which they came, how many can be kept, and what stands in the stretch that
-- was lent last
pub record Ring : Type 0 where
  pub bytes : List ℕ
  pub capacity : ℕ
  pub room : List ℕ

-- what stands in a stretch over which bytes were written: it keeps its length
abbrev pub overwritten : List ℕ → List ℕ → List ℕ
overwritten stretch bytes = take (length stretch) (bytes ++ drop (length bytes) stretch)

-- a ring whose room is a stretch over which bytes were written
abbrev pub with_room : Ring → List ℕ → List ℕ → Ring
with_room r stretch bytes = record r { room = overwritten stretch bytes }
