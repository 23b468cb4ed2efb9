-- Fewer than 2^32 numbers of two bytes have an encoding, so only want of memory refuses them.
use Rattle.std.specs.Prelude.{◌≡◌, ℕ, suc, ◌*◌, ◌-◌, ◌^◌, ◌<◌, List, [], ◌∷◌, ◌++◌, length, map, get_or, ◌⊎◌, refl}
use Rattle.std.proofs.Common.{sym, subst, arith, inl, inr}
use Rattle.std.proofs.lemmas.List.{length-append, map-id}
use Rattle.speedy.specs.Digits.{digits}
use Rattle.speedy.specs.DigitsLemmas.{length-digits, EncodesNumber-digits}
use Rattle.speedy.specs.Mode.{Mode}
use Rattle.speedy.specs.Error.{error_of}
use Rattle.speedy.specs.declared.error.Error.{Error}
use Rattle.speedy.specs.declared.error.ErrorKind.TheVariants as kinds
use Rattle.speedy.specs.Format.{Each}
use Rattle.speedy.specs.Lists.{list, vector, repeat}
use Rattle.speedy.specs.Numbers.{unsigned_number}
use Rattle.speedy.specs.Owned.{owned_content}
use Rattle.speedy.specs.Sequences.{sequence}

-- each number has two bytes
abbrev HaveTwoBytes : List ℕ → Type 0
HaveTwoBytes ns = (i : ℕ) → i < length ns → get_or ns i 0 < 2 ^ 16

-- the numbers one after another
each_encoded : (mode : Mode) (ns : List ℕ) → HaveTwoBytes ns
    → (bytes : List ℕ) × Each (unsigned_number 2 mode).encodes ns bytes × (length bytes ≡ 2 * length ns)
unfolding unsigned_number
each_encoded mode [] h = ([], refl, refl)
each_encoded mode (n ∷ ns) h =
    let first = digits mode.order 2 n in
    let more = each_encoded mode ns (λ i below. h (suc i) (omega arith)) in
    let size = length-append first more.0 in
    let width = length-digits mode.order 2 n in
    let sizes = more.2 in (
      first ++ more.0,
      record {
        prefix = first;
        suffix = more.0;
        whole_is = refl;
        first_is = EncodesNumber-digits 2 mode.order n (h 0 (omega arith));
        second_is = more.1;
      },
      omega arith,
    )

-- and their count before them
list_encoded : (mode : Mode) (ns : List ℕ) → HaveTwoBytes ns → length ns < 2 ^ 32
    → (bytes : List ℕ) × (list mode (unsigned_number 2 mode)).encodes ns bytes × (length bytes < 2 ^ 64 - 1)
unfolding list vector repeat owned_content sequence unsigned_number
list_encoded mode ns h few =
    let count = digits mode.order 4 (length ns) in
    let items = each_encoded mode ns h in
    let size = length-append count items.0 in
    let width = length-digits mode.order 4 (length ns) in
    let sizes = items.2 in (
      count ++ items.0,
      record {
        prefix = count;
        suffix = items.0;
        whole_is = refl;
        first_is = EncodesNumber-digits 4 mode.order (length ns) few;
        second_is = (refl, items.1);
      },
      omega arith,
    )

-- why the writing of so few numbers was refused
pub only_memory : {X : Type 0} {e : Error} (mode : Mode) (ns : List ℕ) → HaveTwoBytes ns → length ns < 2 ^ 32
    → (e ≡ error_of kinds.OutOfMemory)
    ⊎ (((bytes : List ℕ) → (list mode (unsigned_number 2 mode)).encodes (map (λ n. n) ns) bytes
    → length bytes < 2 ^ 64 - 1 → ⊥) × X)
    → e ≡ error_of kinds.OutOfMemory
only_memory mode ns h few (inl memory) = memory
only_memory mode ns h few (inr none) =
    let encoded = list_encoded mode ns h few in
    absurd (none.0 encoded.0 (subst (λ (vs : List ℕ). (list mode (unsigned_number 2 mode)).encodes vs encoded.0)
    (sym (map-id ns)) encoded.1) encoded.2)
