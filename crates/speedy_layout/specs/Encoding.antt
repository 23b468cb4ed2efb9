-- How values are encoded as codes: values of another type, of which one is chosen for each value.
use Rattle.std.specs.Prelude.{◌≡◌, List, ℕ, false, refl}
use Rattle.std.proofs.Common.{sym, ◌∙◌, subst}
use Rattle.speedy_base.specs.declared.error.ErrorKind.{ErrorKind}
use Rattle.speedy_base.specs.declared.error.ErrorKind.TheVariants as kinds
use Rattle.speedy_base.specs.Mode.{Mode}
use Rattle.speedy_layout.specs.Codes.{Codebook, IsCode, Accepts-means, Accepts-exact_means, coding, coding_codec}
use Rattle.speedy_layout.specs.Codes.{subset_codec, length_subset_codec}
use Rattle.speedy_layout.specs.Format.{IsOwnKind}
use Rattle.speedy_layout.specs.Laws.{Codec}
use Rattle.speedy_layout.specs.Numbers.{unsigned_codec, unsigned_number}

-- What a value is encoded as: a code of which each canonical encoding is one of the value. It has an encoding where the
-- value has one, and is refused in writing with kinds of the value's own.
pub record Encodes {U V : Type 0} (codes : Codec U) (values : Codec V) (code : U) (v : V) : Type 0 where
  pub written : (mode : Mode) (b : List ℕ) → (codes.format mode).writes code b → (values.format mode).writes v b
  pub has_encoding : (mode : Mode) (b : List ℕ) → (values.format mode).encodes v b
      → (d : List ℕ) × (codes.format mode).encodes code d
  pub refuses : (mode : Mode) (kind : ErrorKind) → (codes.format mode).refuses_writing kind
      → (values.format mode).refuses_writing kind

-- a value is encoded as the code that is chosen for it
pub encoded_as : {U V : Type 0} (c : Codebook U V) (codes : Codec U) (is : (mode : Mode) → IsCode c (codes.format mode))
    {u : U} {v : V} → ((mode : Mode) → (codes.format mode).asks.hashed ≡ false) → c.chosen u v
    → Encodes codes (coding_codec c codes is) u v
unfolding coding
encoded_as {U = U} c codes is {u = u} {v = v} not_hashed chosen = record {
  written = λ mode b h. record { code = u; code_is = h; stands = chosen };
  has_encoding = λ mode b h.
      let law = is mode in
      let means = Accepts-means mode.strict c h.code v (law.chosen_means h.code v) h.stands in
      let x = law.has_chosen v b (record { code = h.code; code_is = h.code_is; stands = means }) in
      let same = law.one_chosen (not_hashed mode) x.1.code u v x.1.stands chosen in
      (x.0, subst (λ (y : U). (codes.format mode).encodes y x.0) same x.1.code_is);
  refuses = λ mode kind h. h;
}

-- where the code is a number
pub number_encoded : {V : Type 0} (width : ℕ) (c : Codebook ℕ V)
    (is : (mode : Mode) → IsCode c ((unsigned_codec width).format mode)) {n : ℕ} {v : V} → c.chosen n v
    → Encodes (unsigned_codec width) (coding_codec c (unsigned_codec width) is) n v
unfolding unsigned_number
number_encoded width c is chosen = encoded_as c (unsigned_codec width) is (λ _. refl) chosen

-- a value that passes a test is encoded as it is
pub subset_encoded : {V : Type 0} (pass : V → Type 0) (refusal : ErrorKind) (own : IsOwnKind refusal)
    (whole : Codec V) {u v : V} → u ≡ v → pass v → Encodes whole (subset_codec pass refusal own whole) u v
unfolding coding
subset_encoded pass refusal own whole {u = u} {v = v} same passed = record {
  written = λ mode b h. record { code = u; code_is = h; stands = (same, passed) };
  has_encoding = λ mode b h.
      let is = Accepts-exact_means mode.strict _ _ h.code v h.stands in
      (b, subst (λ x. (whole.format mode).encodes x b) (is.0 ∙ sym same) h.code_is);
  refuses = λ mode kind h. h;
}

-- and so is one of which a length is told
pub length_encoded : {V : Type 0} (pass : V → Type 0) (whole : Codec V) {u v : V} → u ≡ v → pass v
    → Encodes whole (length_subset_codec pass whole) u v
length_encoded pass whole same passed =
    let is = subset_encoded pass kinds.OutOfRangeLength tt whole same passed in
    record { written = is.written; has_encoding = is.has_encoding; refuses = is.refuses }

pub ruleset encoded = (number_encoded, subset_encoded)
