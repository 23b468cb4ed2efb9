-- What a read and a write of a list of items says of the thing that it gathers to.
use Rattle.std.specs.Prelude.{◌≡◌, ℕ, List, length, Bool, true, false, IsTrue, refl}
use Rattle.std.proofs.Common.{sym, subst, arith}
use Rattle.speedy_base.specs.Mode.{Mode}
use Rattle.speedy_layout.specs.Format.{Format}
use Rattle.speedy_layout.specs.Laws.{Laws}
use Rattle.speedy_layout.specs.Codes.{Coded, coding, Accepts-means, Accepts-demanded}
use Rattle.speedy_layout.specs.Lists.{prefixed_list, prefixed_list_laws}
use Rattle.speedy_layout.specs.Numbers.{WritesSmaller}
use Rattle.speedy_layout.specs.Gathering.{IsGathering, gathering, items_of, gathered, hashed_items, form_encoded}
use Rattle.speedy_layout.specs.Gathering.{form_shortest}

items_of_list : {E : Type 0} (hashed : Bool) (count : Format ℕ) (L : Format E)
    → ((items_of hashed count L).encodes ≡ (prefixed_list count L).encodes)
    × ((items_of hashed count L).writes ≡ (prefixed_list count L).writes)
unfolding hashed_items
items_of_list false count L = (refl, refl)
items_of_list true count L = (refl, refl)

module _ {E S : Type 0} (hashed : Bool) (mode : Mode) (count : Format ℕ) (stands : List E → S → Type 0)
    (written : List E → Type 0) (L : Format E) where
  -- what is encoded is read from a list that stands for it and that is written, under a demand
  pub gathered_encoded : (s : S) (bytes : List ℕ) → (gathered hashed mode count stands written L).encodes s bytes
      → (items : List E) × (prefixed_list count L).encodes items bytes × stands items s
      × (IsTrue mode.strict → written items)
  unfolding coding
  gathered_encoded s bytes h = (
    h.code,
    subst (λ encodes. encodes h.code bytes) (items_of_list hashed count L).0 h.code_is,
    Accepts-means mode.strict (gathering stands written) h.code s (λ c. c.0) h.stands,
    λ t. (Accepts-demanded mode.strict (gathering stands written) h.code s t h.stands).1,
  )

  -- a list that is written of a thing is a canonical encoding of it
  pub gathered_writes : (items : List E) (s : S) (bytes : List ℕ) → (prefixed_list count L).writes items bytes
      → stands items s → written items → (gathered hashed mode count stands written L).writes s bytes
  unfolding coding
  gathered_writes items s bytes h k w = record {
    code = items;
    code_is = subst (λ writes. writes items bytes) (sym (items_of_list hashed count L).1) h;
    stands = (k, w);
  }

module _ {E S : Type 0} {hashed : Bool} {stands : List E → S → Type 0} {written : List E → Type 0}
    {width least : ℕ} {count : Format ℕ} {L : Format E} (mode : Mode) (numbers : Laws mode.strict width count)
    (smaller : WritesSmaller count) (laws : Laws mode.strict least L) (is : IsGathering hashed stands written)
    (s : S) (bytes : List ℕ) where
  -- each form of a thing that has an encoding has one itself
  pub gathered_form : (gathered hashed mode count stands written L).encodes s bytes → (items : List E)
      → stands items s → written items → (b : List ℕ) × (prefixed_list count L).encodes items b
  gathered_form h items stands_for is_written =
      let x = gathered_encoded hashed mode count stands written L s bytes h in
      form_encoded numbers smaller laws is s bytes (record { code = x.0; code_is = x.1; stands = x.2 }) items
      stands_for is_written

  -- and is written in just as many bytes as the thing
  pub gathered_form_length : (gathered hashed mode count stands written L).writes s bytes → (items : List E)
      → stands items s → written items
      → (b : List ℕ) × (prefixed_list count L).writes items b × (length b ≡ length bytes)
  unfolding coding
  gathered_form_length h items stands_for is_written =
      let lists = prefixed_list_laws numbers laws in
      let x : (prefixed_list count L).writes h.code bytes =
      subst (λ writes. writes h.code bytes) (items_of_list hashed count L).1 h.code_is in
      let read : Coded (prefixed_list count L).encodes stands s bytes =
      record { code = h.code; code_is = lists.written_encodes h.code bytes x; stands = h.stands.0 } in
      let encoded = form_encoded numbers smaller laws is s bytes read items stands_for is_written in
      let b = lists.has_written items encoded.0 encoded.1 in
      let no_less = form_shortest numbers smaller laws is s bytes b.0
      (record { code = h.code; code_is = x; stands = h.stands })
      (record { code = items; code_is = lists.written_encodes items b.0 b.1; stands = stands_for }) in
      let no_more = form_shortest numbers smaller laws is s b.0 bytes
      (record { code = items; code_is = b.1; stands = (stands_for, is_written) }) read in
      (b.0, b.1, omega arith)
