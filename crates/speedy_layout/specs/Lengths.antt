-- Parts that tell the length of what stands behind them: of a text its number of bytes, of a list or a set that of its
-- items, of a map that of its pairs.
use Rattle.std.specs.Prelude.{◌≡◌, ℕ, ◌+◌, List, [], Bool, ◌⊎◌, length, true, false}
use Rattle.std.proofs.Common.{ap, arith, inl, inr, sym, ◌∙◌}
use Rattle.speedy_base.specs.Mode.{Mode}
use Rattle.speedy_base.specs.declared.error.ErrorKind.{ErrorKind}
use Rattle.speedy_base.specs.declared.error.ErrorKind.TheVariants as kinds
use Rattle.speedy_layout.specs.Codecs.{Codec, borrowed_codec, vector_codec}
use Rattle.speedy_layout.specs.Codes.{Codebook, coding, length_subset_codec, Accepts-exact_means, Accepts-means}
use Rattle.speedy_layout.specs.Format.{Asks, asks_nothing, Format, IsOwnKind}
use Rattle.speedy_layout.specs.Laws.{Laws, Laws-less, Laws-refusing, WritesToo}
use Rattle.speedy_layout.specs.Lists.{vector_asks, vector_ends, vector_length}
use Rattle.speedy_layout.specs.Owned.{borrowed_content, owned_content}
use Rattle.speedy_layout.specs.Padding.{padding_codec, padding_code, zeros_codec, zeros_code}
use Rattle.speedy_layout.specs.Sequences.{AsksAtMost, asks_same, sequence, sequence_laws, sequence_written}
use Rattle.speedy_layout.specs.Texts.{raw_bytes, text_of_length, text_of_length_laws, text_asks}
use Rattle.speedy_layout.specs.Texts.{text_of_length_written}

-- Texts, lists, maps or sets of a length that their encoding does not say.
pub record Counting (V : Type 0) : Type 1 where
  -- how long a value is
  pub count : V → ℕ
  -- the values of a length
  pub of_length : ℕ → Codec V
  -- what any of them asks
  pub asks : Mode → Asks
  pub within : (f : Mode) (n : ℕ) → AsksAtMost ((of_length n).format f).asks (asks f)
  -- values of another length are not among them
  pub is_count : (f : Mode) (n : ℕ) (v : V) (s : List ℕ) → ((of_length n).format f).encodes v s → count v ≡ n
  -- bytes, of which there are some, are those of values of one length
  pub ends : (f : Mode) (n m : ℕ) (v w : V) (s : List ℕ) → ((of_length n).format f).encodes v s
      → ((of_length m).format f).encodes w s → (s ≡ [] → ⊥) → n ≡ m

-- the refusal of another length than is told, which names the field
abbrev pub IsOtherLength : List ℕ → ErrorKind → Type 0
IsOtherLength field (kinds.LengthIsNotTheSameAsLengthAttribute name) = name.now ≡ field
IsOtherLength field _ = ⊥

-- the same values, where writing refuses others as those of another length
abbrev pub told_length : {V : Type 0} → List ℕ → Format V → Format V
told_length field F = record F { refuses_writing = λ kind. IsOtherLength field kind ⊎ F.refuses_writing kind }

other_length_own : (field : List ℕ) (kind : ErrorKind) → IsOtherLength field kind → IsOwnKind kind
other_length_own field (kinds.LengthIsNotTheSameAsLengthAttribute name) h = tt
other_length_own field _ h = absurd h

pub told_length_laws : {V : Type 0} {strict : Bool} {least : ℕ} {F : Format V} (field : List ℕ)
    → Laws strict least F → Laws strict least (told_length field F)
told_length_laws {F = F} field laws =
    Laws-refusing (λ kind. IsOtherLength field kind ⊎ F.refuses_writing kind)
    (λ kind h. elim h [ inl x ↦ other_length_own field kind x | inr x ↦ laws.refuses_own kind x ]) laws

pub told_length_written : {V : Type 0} {F G : Format V} (field : List ℕ) → WritesToo F G
    → WritesToo (told_length field F) (told_length field G)
told_length_written field same = record { too = same.too }

-- Parts whose numbers tell a length. Where they tell none, they are refused as a length that is out of range.
abbrev pub told_codec : {N B : Type 0} → (N → Type 0) → (B → N) → Codec B → Codec B
told_codec is_told numbers before = length_subset_codec (λ b. is_told (numbers b)) before

-- Parts whose numbers tell a length, and behind them a value of that length.
abbrev pub with_length_codec : {N B V : Type 0} → (N → Type 0) → (N → ℕ) → (B → N) → List ℕ → Codec B → Counting V
    → Codec (B × V)
with_length_codec {B = B} {V = V} is_told told numbers field before counting = record {
  least = before.least;
  format = λ f. sequence (λ (p : B × V). p) ((told_codec is_told numbers before).format f) (counting.asks f)
      (λ b. told_length field ((counting.of_length (told (numbers b))).format f));
  laws = λ f. Laws-less {n = before.least + 0} (omega arith)
      (sequence_laws {n = before.least} {m = 0} ((told_codec is_told numbers before).laws f)
      (λ b. Laws-less (omega arith) (told_length_laws field ((counting.of_length (told (numbers b))).laws f)))
      (λ b. counting.within f (told (numbers b))) (λ v w e. e));
  same_written = λ f strict. sequence_written (λ (p : B × V). p) _ _
      ((told_codec is_told numbers before).same_written f strict)
      (λ b. told_length_written field ((counting.of_length (told (numbers b))).same_written f strict));
}

-- lists of n items
abbrev pub list_counting : {V : Type 0} → Codec V → Counting (List V)
list_counting item = record {
  count = length;
  of_length = λ n. vector_codec n item;
  asks = λ f. record (item.format f).asks { memory = true };
  within = λ f n. vector_asks (item.format f) n;
  is_count = λ f n v s h. vector_length n (item.format f) v s h;
  ends = λ f n m v w s h k some. vector_ends (item.laws f) n m v w s h k some;
}

pub borrowed_asks : {V : Type 0} (F : Format V) {asks : Asks} → AsksAtMost F.asks asks
    → AsksAtMost (borrowed_content F).asks (record asks { lending = true; memory = false })
unfolding borrowed_content
borrowed_asks F h = record { lending = λ t. t; hashed = h.hashed; memory = λ t. t }

pub borrowed_count : {V : Type 0} (F : Format V) {count : V → ℕ} {n : ℕ}
    → ((v : V) (s : List ℕ) → F.encodes v s → count v ≡ n)
    → (v : V) (s : List ℕ) → (borrowed_content F).encodes v s → count v ≡ n
unfolding borrowed_content
borrowed_count F h = h

pub borrowed_ends : {V : Type 0} (F G : Format V) {n m : ℕ}
    → ((v w : V) (s : List ℕ) → F.encodes v s → G.encodes w s → (s ≡ [] → ⊥) → n ≡ m)
    → (v w : V) (s : List ℕ) → (borrowed_content F).encodes v s → (borrowed_content G).encodes w s → (s ≡ [] → ⊥)
    → n ≡ m
unfolding borrowed_content
borrowed_ends F G h = h

-- a text of n bytes has n
pub text_length : (mode : Mode) (n : ℕ) (t s : List ℕ) → (text_of_length mode n).encodes t s → length t ≡ n
unfolding text_of_length owned_content coding raw_bytes
text_length mode n t s h =
    let is = Accepts-exact_means mode.strict _ _ _ _ h.stands in
    ap length (sym is.0 ∙ h.code_is.0) ∙ h.code_is.1

-- and is all of them
pub text_ends : (mode : Mode) (n m : ℕ) (t u s : List ℕ) → (text_of_length mode n).encodes t s
    → (text_of_length mode m).encodes u s → n ≡ m
unfolding text_of_length owned_content coding raw_bytes
text_ends mode n m t u s h k = sym h.code_is.1 ∙ k.code_is.1

-- texts of n bytes
abbrev pub text_counting : Counting (List ℕ)
text_counting = record {
  count = length;
  of_length = λ n. record {
    least = n;
    format = λ f. text_of_length f n;
    laws = λ f. text_of_length_laws f n;
    same_written = text_of_length_written n;
  };
  asks = λ _. record asks_nothing { memory = true };
  within = text_asks;
  is_count = text_length;
  ends = λ f n m v w s h k _. text_ends f n m v w s h k;
}

-- the code of n bytes has n
pub bytes_length : {V : Type 0} (c : Codebook (List ℕ) V) (mode : Mode) (n : ℕ) (v : V) (s : List ℕ)
    → (coding mode c (raw_bytes n)).encodes v s → length s ≡ n
unfolding coding raw_bytes
bytes_length c mode n v s h = h.code_is.1

pub bytes_asks : {V : Type 0} (c : Codebook (List ℕ) V) (mode : Mode) (n : ℕ)
    → AsksAtMost (coding mode c (raw_bytes n)).asks asks_nothing
unfolding coding raw_bytes
bytes_asks c mode n = asks_same

-- padding of n bytes, and n zeros, are seen as n
pub padding_length : (mode : Mode) (n v : ℕ) (s : List ℕ) → ((padding_codec n).format mode).encodes v s → v ≡ n
unfolding coding
padding_length mode n v s h = Accepts-means mode.strict (padding_code n) h.code v (λ c. c.0) h.stands

pub zeros_length : (mode : Mode) (n v : ℕ) (s : List ℕ) → ((zeros_codec n).format mode).encodes v s → v ≡ n
unfolding coding
zeros_length mode n v s h = (Accepts-means mode.strict (zeros_code n) h.code v (λ c. c) h.stands).0

-- padding of n bytes
abbrev pub padding_counting : Counting ℕ
padding_counting = record {
  count = λ n. n;
  of_length = padding_codec;
  asks = λ _. asks_nothing;
  within = λ f n. bytes_asks (padding_code n) f n;
  is_count = padding_length;
  ends = λ f n m v w s h k _.
      sym (bytes_length (padding_code n) f n v s h) ∙ bytes_length (padding_code m) f m w s k;
}

-- n zeros
abbrev pub zeros_counting : Counting ℕ
zeros_counting = record {
  count = λ n. n;
  of_length = zeros_codec;
  asks = λ _. asks_nothing;
  within = λ f n. bytes_asks (zeros_code n) f n;
  is_count = zeros_length;
  ends = λ f n m v w s h k _.
      sym (bytes_length (zeros_code n) f n v s h) ∙ bytes_length (zeros_code m) f m w s k;
}

-- those that borrow their content
abbrev pub borrowed_counting : {V : Type 0} → Counting V → Counting V
borrowed_counting counting = record {
  count = counting.count;
  of_length = λ n. borrowed_codec (counting.of_length n);
  asks = λ f. record (counting.asks f) { lending = true; memory = false };
  within = λ f n. borrowed_asks ((counting.of_length n).format f) (counting.within f n);
  is_count = λ f n. borrowed_count ((counting.of_length n).format f) (λ v s. counting.is_count f n v s);
  ends = λ f n m. borrowed_ends ((counting.of_length n).format f) ((counting.of_length m).format f)
      (λ v w s. counting.ends f n m v w s);
}

-- ---- a value for which no length is told, and one of another length than is told, have no encoding

module _ {N B V : Type 0} (is_told : N → Type 0) (told : N → ℕ) (numbers : B → N) (field : List ℕ)
    (before : Codec B) (counting : Counting V) (f : Mode) (b : B) (v : V) where
  pub untold_undecodable : (is_told (numbers b) → ⊥) → (s : List ℕ)
      → ((with_length_codec is_told told numbers field before counting).format f).encodes (b, v) s → ⊥
  unfolding sequence coding
  untold_undecodable untold s h = untold (Accepts-exact_means f.strict _ _ _ _ h.first_is.stands).1

  pub other_length_undecodable : (counting.count v ≡ told (numbers b) → ⊥) → (s : List ℕ)
      → ((with_length_codec is_told told numbers field before counting).format f).encodes (b, v) s → ⊥
  unfolding sequence
  other_length_undecodable other s h = other (counting.is_count f (told (numbers b)) v h.suffix h.second_is)
