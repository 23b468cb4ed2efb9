-- Values that are encoded as values of another format, which they pass a test of, or are mapped to.
use Rattle.std.specs.Prelude.{◌≡◌, ℕ, ◌≤◌, List, ◌++◌, length, Bool, true, false, IsTrue, ◌⊎◌, refl}
use Rattle.std.proofs.Common.{sym, ◌∙◌, subst, inl, inr}
use Rattle.speedy_base.specs.declared.error.ErrorKind.{ErrorKind}
use Rattle.speedy_base.specs.declared.error.ErrorKind.TheVariants as kinds
use Rattle.speedy_base.specs.Mode.{Mode}
use Rattle.speedy_layout.specs.Format.{Format, IsOwnKind}
use Rattle.speedy_layout.specs.Laws.{Laws, Codec, Decided, Laws-lengths, WritesToo}

-- How values are coded as values of another type.
pub record Codebook (U V : Type 0) : Type 1 where
  -- the code is read as the value
  pub means : U → V → Type 0
  -- the value is written as the code
  pub chosen : U → V → Type 0
  -- the kinds that a code which means no value is refused with
  pub refusals : ErrorKind → Type 0

-- the bytes are those of a code that stands for the value
pub record Coded {U V : Type 0} (encoded : U → List ℕ → Type 0) (stands_for : U → V → Type 0) (v : V)
    (bytes : List ℕ) : Type 0 where
  pub code : U
  pub code_is : encoded code bytes
  pub stands : stands_for code v

-- a code that is accepted as no value is encoded by a prefix of the bytes
pub record MeansNothing {U V : Type 0} (encodes : U → List ℕ → Type 0) (means : U → V → Type 0)
    (bytes : List ℕ) : Type 0 where
  pub code : U
  pub prefix : List ℕ
  pub rest : List ℕ
  pub whole_is : bytes ≡ prefix ++ rest
  pub code_is : encodes code prefix
  pub nothing : (v : V) → means code v → ⊥

-- the code is accepted as the value: each that means it, or the chosen one alone, under a demand for the canonical
-- encoding
abbrev pub Accepts : {U V : Type 0} → Bool → Codebook U V → U → V → Type 0
Accepts false c = c.means
Accepts true c = c.chosen

-- some code is read as a value that it is not written as
pub record ReadsWider {U V : Type 0} (c : Codebook U V) : Type 0 where
  pub code : U
  pub value : V
  pub meant : c.means code value
  pub not_chosen : c.chosen code value → ⊥

-- the kind of what is no canonical encoding, where there may be such and the canonical encoding is demanded
abbrev pub IsDemand : {U V : Type 0} → Bool → Codebook U V → ErrorKind → Type 0
IsDemand strict c kind = IsTrue strict × (kind ≡ kinds.NotWrittenForm) × ReadsWider c

-- Values that are encoded as their codes. This alone reads wider than it writes, and here alone a demand for the
-- canonical encoding narrows what is read.
unfoldable pub coding : {U V : Type 0} → Mode → Codebook U V → Format U → Format V
coding mode c F = record {
  encodes = Coded F.encodes (Accepts mode.strict c);
  writes = Coded F.writes c.chosen;
  names = λ kind. F.names kind ⊎ (c.refusals kind ⊎ IsDemand mode.strict c kind);
  refuses_writing = F.refuses_writing;
  malformed = λ bytes. F.malformed bytes ⊎ MeansNothing F.encodes (Accepts mode.strict c) bytes;
  wrong_length = F.wrong_length;
  asks = F.asks;
}

-- What makes a code of values of a format lawful.
pub record IsCode {U V : Type 0} (c : Codebook U V) (F : Format U) : Type 0 where
  -- a code means at most one value
  pub one_meaning : (u : U) (v w : V) → c.means u v → c.means u w → v ≡ w
  -- at most one code is chosen for a value, where nothing is hashed
  pub one_chosen : F.asks.hashed ≡ false → (u w : U) (v : V) → c.chosen u v → c.chosen w v → u ≡ w
  -- whether two values are the same is decided where it is of codes; where nothing is hashed, that follows from the
  -- chosen ones
  pub tells : F.asks.hashed ≡ true → ((u w : U) (s t : List ℕ) → F.encodes u s → F.encodes w t → Decided (u ≡ w))
      → (v w : V) (s t : List ℕ) → Coded F.encodes c.means v s → Coded F.encodes c.means w t → Decided (v ≡ w)
  -- a code that is chosen for a value means it
  pub chosen_means : (u : U) (v : V) → c.chosen u v → c.means u v
  -- one is chosen where the value has an encoding
  pub has_chosen : (v : V) (bytes : List ℕ) → Coded F.encodes c.means v bytes
      → (b : List ℕ) × Coded F.encodes c.chosen v b
  -- no encoding of the value is shorter than those of the chosen code that are written, where none of a code is
  pub chosen_shortest : ((u : U) (b d : List ℕ) → F.writes u b → F.encodes u d → length b ≤ length d)
      → (v : V) (b d : List ℕ) → Coded F.writes c.chosen v b → Coded F.encodes c.means v d → length b ≤ length d
  pub refusals_own : (kind : ErrorKind) → c.refusals kind → IsOwnKind kind

-- what is chosen is accepted
pub Accepts-chosen : {U V : Type 0} (strict : Bool) (c : Codebook U V) (u : U) (v : V) → (c.chosen u v → c.means u v)
    → c.chosen u v
    → Accepts strict c u v
Accepts-chosen false c u v f h = f h
Accepts-chosen true c u v f h = h

-- what is accepted means the value
pub Accepts-means : {U V : Type 0} (strict : Bool) (c : Codebook U V) (u : U) (v : V) → (c.chosen u v → c.means u v)
    → Accepts strict c u v → c.means u v
Accepts-means false c u v f h = h
Accepts-means true c u v f h = f h

-- under a demand it is chosen
pub Accepts-demanded : {U V : Type 0} (strict : Bool) (c : Codebook U V) (u : U) (v : V) → IsTrue strict
    → Accepts strict c u v → c.chosen u v
Accepts-demanded false c u v s h = absurd (cc)
Accepts-demanded true c u v s h = h

-- what means the value, and is chosen for it under a demand, is accepted as it
pub Accepts-is : {U V : Type 0} (strict : Bool) (c : Codebook U V) (u : U) (v : V) → c.means u v
    → (IsTrue strict → c.chosen u v) → Accepts strict c u v
Accepts-is false c u v h f = h
Accepts-is true c u v h f = f refl

demand_own : {U V : Type 0} (strict : Bool) (c : Codebook U V) (kind : ErrorKind) → IsDemand strict c kind
    → IsOwnKind kind
demand_own strict c kind h = subst IsOwnKind (sym h.1) tt

-- the laws of values that are encoded as their codes
pub coding_laws : {U V : Type 0} (mode : Mode) {c : Codebook U V} {least : ℕ} {F : Format U}
    → Laws mode.strict least F → IsCode c F
    → Laws mode.strict least (coding mode c F)
unfolding coding
coding_laws {U = U} {V = V} mode {c = c} {F = F} laws is = record {
  decodes = λ v w s t r q h k e.
      let same = laws.decodes h.code k.code s t r q h.code_is k.code_is e in (
        is.one_meaning k.code v w (subst (λ (u : U). c.means u v) same.0 (means h.code v h.stands))
            (means k.code w k.stands),
        same.1,
        same.2,
      );
  tells = λ v w s t h k. by_hashed F.asks.hashed refl v w s t (meant v s h) (meant w t k);
  written_encodes = λ v b h. record {
    code = h.code;
    code_is = laws.written_encodes h.code b h.code_is;
    stands = Accepts-chosen strict c h.code v (is.chosen_means h.code v) h.stands;
  };
  written_alone = λ s v b h. record {
    code = h.code;
    code_is = laws.written_alone s h.code b h.code_is;
    stands = Accepts-demanded strict c h.code v s h.stands;
  };
  shortest = λ v b d h k. is.chosen_shortest laws.shortest v b d h (meant v d k);
  least_size = λ v b h. laws.least_size h.code b h.code_is;
  has_written = λ v b h.
      let x = is.has_chosen v b (meant v b h) in
      let w = laws.has_written x.1.code x.0 x.1.code_is in
      (w.0, record { code = x.1.code; code_is = w.1; stands = x.1.stands });
  one_written = λ u v b d h k.
      let same = is.one_chosen u h.code k.code v h.stands k.stands in
      laws.one_written u k.code b d (subst (λ (x : U). F.writes x b) same h.code_is) k.code_is;
  malformed_undecodable = λ v prefix rest f h.
      elim f [
        | inl x ↦ laws.malformed_undecodable h.code prefix rest x h.code_is
        | inr x ↦
            let same = laws.decodes x.code h.code x.prefix prefix x.rest rest x.code_is h.code_is (sym x.whole_is) in
            x.nothing v (subst (λ (u : U). Accepts strict c u v) (sym same.0) h.stands)
      ];
  wrong_length_malformed = λ b h. inl (laws.wrong_length_malformed b h);
  names_own = λ kind n. elim n [
    | inl x ↦ laws.names_own kind x
    | inr x ↦ elim x [ inl y ↦ is.refusals_own kind y | inr y ↦ demand_own strict c kind y ]
  ];
  refuses_own = laws.refuses_own;
} where
  strict : Bool
  strict = mode.strict

  means : (u : U) (v : V) → Accepts strict c u v → c.means u v
  means u v h = Accepts-means strict c u v (is.chosen_means u v) h

  meant : (v : V) (b : List ℕ) → Coded F.encodes (Accepts strict c) v b → Coded F.encodes c.means v b
  meant v b h = record { code = h.code; code_is = h.code_is; stands = means h.code v h.stands }

  by_hashed : (b : Bool) → F.asks.hashed ≡ b → (v w : V) (s t : List ℕ) → Coded F.encodes c.means v s
      → Coded F.encodes c.means w t → Decided (v ≡ w)
  by_hashed true hashed v w s t h k = is.tells hashed laws.tells v w s t h k
  by_hashed false hashed v w s t h k =
      let x = is.has_chosen v s h in
      let y = is.has_chosen w t k in
      elim (laws.tells x.1.code y.1.code x.0 y.0 x.1.code_is y.1.code_is) [
        | inl e ↦ inl (is.one_meaning y.1.code v w
            (subst (λ (u : U). c.means u v) e (is.chosen_means x.1.code v x.1.stands))
            (is.chosen_means y.1.code w y.1.stands))
        | inr n ↦ inr (λ e. n (is.one_chosen hashed x.1.code y.1.code w
            (subst (λ (z : V). c.chosen x.1.code z) e x.1.stands) y.1.stands))
      ]

-- values are written as their codes are
pub coding_written : {U V : Type 0} (f g : Mode) (c : Codebook U V) {F G : Format U} → WritesToo F G
    → WritesToo (coding f c F) (coding g c G)
unfolding coding
coding_written f g c same = record {
  too = λ v b h. record { code = h.code; code_is = same.too h.code b h.code_is; stands = h.stands };
}

abbrev pub coding_codec : {U V : Type 0} (c : Codebook U V) (codes : Codec U)
    → ((f : Mode) → IsCode c (codes.format f)) → Codec V
coding_codec c codes is = record {
  least = codes.least;
  format = λ f. coding f c (codes.format f);
  laws = λ f. coding_laws f (codes.laws f) (is f);
  same_written = λ f strict. coding_written f (record f { strict = strict }) c (codes.same_written f strict);
}

-- ---- one code for each value

-- each value is written as just what is read as it
abbrev pub exact_code : {U V : Type 0} → (U → V → Type 0) → (ErrorKind → Type 0) → Codebook U V
exact_code means refusals = record { means = means; chosen = means; refusals = refusals }

-- a code that means a value is accepted as it under a demand too
pub Accepts-exact : {U V : Type 0} (strict : Bool) (means : U → V → Type 0) (refusals : ErrorKind → Type 0) (u : U)
    (v : V) → means u v
    → Accepts strict (exact_code means refusals) u v
Accepts-exact false means refusals u v h = h
Accepts-exact true means refusals u v h = h

-- a code that is accepted as a value means it
pub Accepts-exact_means : {U V : Type 0} (strict : Bool) (means : U → V → Type 0) (refusals : ErrorKind → Type 0)
    (u : U) (v : V)
    → Accepts strict (exact_code means refusals) u v → means u v
Accepts-exact_means false means refusals u v h = h
Accepts-exact_means true means refusals u v h = h

-- that is lawful where a code means at most one value, and a value has at most one code
pub exact_is_code : {U V : Type 0} {means : U → V → Type 0} {refusals : ErrorKind → Type 0} {F : Format U}
    → ((kind : ErrorKind) → refusals kind → IsOwnKind kind) → ((u : U) (v w : V) → means u v → means u w → v ≡ w)
    → ((u w : U) (v : V) → means u v → means w v → u ≡ w) → IsCode (exact_code means refusals) F
exact_is_code {U = U} {V = V} {means = means} {F = F} own one_meaning one_code = record {
  one_meaning = one_meaning;
  one_chosen = λ _. one_code;
  tells = λ _ decided v w s t h k.
      elim (decided h.code k.code s t h.code_is k.code_is) [
        | inl e ↦ inl (one_meaning k.code v w (subst (λ (u : U). means u v) e h.stands) k.stands)
        | inr n ↦ inr (λ e. n (one_code h.code k.code w (subst (λ (z : V). means h.code z) e h.stands) k.stands))
      ];
  chosen_means = λ u v h. h;
  has_chosen = λ v b h. (b, h);
  chosen_shortest = λ shortest v b d h k.
      let same = one_code k.code h.code v k.stands h.stands in
      shortest h.code b d h.code_is (subst (λ (u : U). F.encodes u d) same k.code_is);
  refusals_own = own;
}

-- what is said of one kind of a type's own
pub one_kind : (refusal : ErrorKind) → IsOwnKind refusal → (kind : ErrorKind) → kind ≡ refusal → IsOwnKind kind
one_kind refusal own kind e = subst IsOwnKind (sym e) own

-- ---- values that pass a test

-- the values that pass the test, as they are
abbrev pub subset_code : {V : Type 0} → (V → Type 0) → ErrorKind → Codebook V V
subset_code pass refusal = exact_code (λ u v. (u ≡ v) × pass v) (λ kind. kind ≡ refusal)

-- the values of a format that pass the test; the others are refused with the one kind
abbrev pub subset : {V : Type 0} → Mode → (V → Type 0) → ErrorKind → Format V → Format V
subset mode pass refusal F = coding mode (subset_code pass refusal) F

pub subset_is_code : {V : Type 0} {F : Format V} (pass : V → Type 0) (refusal : ErrorKind) → IsOwnKind refusal
    → IsCode (subset_code pass refusal) F
subset_is_code pass refusal own =
    exact_is_code (one_kind refusal own) (λ u v w h k. sym h.0 ∙ k.0) (λ u v w h k. h.0 ∙ sym k.0)

abbrev pub subset_codec : {V : Type 0} (pass : V → Type 0) (refusal : ErrorKind) → IsOwnKind refusal → Codec V → Codec V
subset_codec pass refusal own whole =
    coding_codec (subset_code pass refusal) whole (λ f. subset_is_code pass refusal own)

-- ---- values that a length is told of, which pass a test

-- those that pass it; the others are refused as a length that is out of range
abbrev pub length_subset : {V : Type 0} → Mode → (V → Type 0) → Format V → Format V
length_subset mode pass F =
    let code = subset_code pass kinds.OutOfRangeLength in
    record (coding mode code F) {
      wrong_length = λ bytes. F.wrong_length bytes ⊎ MeansNothing F.encodes (Accepts mode.strict code) bytes;
    }

pub length_subset_laws : {V : Type 0} (mode : Mode) (pass : V → Type 0) {least : ℕ} {F : Format V}
    → Laws mode.strict least F → Laws mode.strict least (length_subset mode pass F)
unfolding coding
length_subset_laws mode pass {F = F} laws =
    Laws-lengths (length_subset mode pass F).wrong_length
    (λ b h. elim h [ inl x ↦ inl (laws.wrong_length_malformed b x) | inr x ↦ inr x ])
    (coding_laws mode laws (subset_is_code pass kinds.OutOfRangeLength tt))

abbrev pub length_subset_codec : {V : Type 0} (pass : V → Type 0) → Codec V → Codec V
length_subset_codec pass whole = record {
  least = whole.least;
  format = λ f. length_subset f pass (whole.format f);
  laws = λ f. length_subset_laws f pass (whole.laws f);
  same_written = λ f strict. record {
    too = (coding_written f (record f { strict = strict }) (subset_code pass kinds.OutOfRangeLength)
        (whole.same_written f strict)).too;
  };
}
