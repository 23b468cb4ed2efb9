-- A header of version 2 begins with one of version 1.
use Rattle.std.specs.Prelude.{◌≡◌, ℕ, ◌≤◌, List, ◌++◌, length, refl}
use Rattle.std.proofs.Common.{ap, sym, ◌∙◌, inl, inr}
use Rattle.std.proofs.lemmas.List.{append_assoc}
use Rattle.speedy.specs.Format.{Format}
use Rattle.speedy.specs.Mode.{Mode}
use Rattle.speedy.specs.Numbers.{unsigned_number}
use Rattle.speedy.specs.Sequences.{sequence}
use Rattle.speedy.specs.Tuples.{pair}
use Rattle.speedy.specs.Prefixes.{BeginsWith, BeginsWithNone}
use Rattle.speedy_protocol.proofs.RefusalLemmas.{IsUnrefused}

-- the header of version 1, and that of version 2
abbrev pub first : Mode → Format (ℕ × ℕ)
first mode = pair (unsigned_number 2 mode) (unsigned_number 2 mode)

abbrev pub second : Mode → Format (ℕ × (ℕ × ℕ))
second mode = pair (unsigned_number 2 mode) (pair (unsigned_number 2 mode) (unsigned_number 8 mode))

-- a second header begins with a first one, and its session
pub shrunk : (mode : Mode) (bytes more : List ℕ) (version flags session : ℕ)
    → (let all : ℕ × (ℕ × ℕ) = (version, (flags, session)) in BeginsWith (second mode) all bytes more)
    → (prefix suffix : List ℕ) × (let both : ℕ × ℕ = (version, flags) in (first mode).encodes both prefix)
    × (unsigned_number 8 mode).encodes session suffix × (bytes ≡ prefix ++ (suffix ++ more))
unfolding sequence
shrunk mode bytes more version flags session begins =
    let all = begins.1 in
    let a = all.prefix in
    let b = all.second_is.prefix in
    let c = all.second_is.suffix in (
      a ++ b,
      c,
      record { prefix = a; suffix = b; whole_is = refl; first_is = all.first_is; second_is = all.second_is.first_is },
      all.second_is.second_is,
      begins.2
          ∙ (ap (λ xs. xs ++ more)
          (all.whole_is ∙ (ap (λ xs. a ++ xs) all.second_is.whole_is ∙ sym (append_assoc a b c)))
          ∙ append_assoc (a ++ b) c more),
    )

-- bytes that begin with no first header begin with no second one
pub none_first : (mode : Mode) (bytes : List ℕ) → BeginsWithNone (first mode) bytes → BeginsWithNone (second mode) bytes
none_first mode bytes none v rest begins =
    let parts = shrunk mode bytes rest v.0 v.1.0 v.1.1 begins in
    none (v.0, v.1.0) (parts.1 ++ rest) (parts.0, parts.2, parts.4)

-- neither refuses anything itself, or takes memory
pub first_plain : (mode : Mode) → IsUnrefused (first mode)
unfolding sequence unsigned_number
first_plain mode = record {
  names = λ kind named. elim named [ inl none ↦ absurd none | inr none ↦ absurd none.1 ];
  memory = λ h. absurd (cc);
  malformed = λ bytes bad. elim bad [ inl none ↦ absurd none | inr broken ↦ absurd broken.1.second_is ];
}

pub second_plain : (mode : Mode) → IsUnrefused (second mode)
unfolding sequence unsigned_number
second_plain mode = record {
  names = λ kind named. elim named [
    | inl none ↦ absurd none
    | inr more ↦ elim more.1 [ inl none ↦ absurd none | inr none ↦ absurd none.1 ]
  ];
  memory = λ h. absurd (cc);
  malformed = λ bytes bad. elim bad [
    | inl none ↦ absurd none
    | inr more ↦ elim more.1.second_is [ inl none ↦ absurd none | inr broken ↦ absurd broken.1.second_is ]
  ];
}
