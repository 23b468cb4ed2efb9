-- Maps and sets of a length that their encoding does not say: it is that of the lists of items that gather to them, in
-- which nothing is repeated.
use Rattle.std.specs.Prelude.{◌≡◌, ℕ, ◌≤◌, List, [], ◌∷◌, ◌++◌, length, Bool, true, ◌||◌, refl}
use Rattle.std.proofs.Common.{sym, ◌∙◌, subst, inl, inr, arith}
use Rattle.std.proofs.lemmas.List.{append_assoc, length-append}
use Rattle.speedy_base.specs.declared.error.ErrorKind.TheVariants as kinds
use Rattle.speedy_base.specs.Mode.{Mode}
use Rattle.speedy_layout.specs.Codes.{Coded, IsCode, coding, coding_laws, coding_written, subset, subset_codec}
use Rattle.speedy_layout.specs.Codes.{Accepts-exact, Accepts-exact_means, Accepts-means}
use Rattle.speedy_layout.specs.Format.{Asks, Format, Each}
use Rattle.speedy_layout.specs.Gathering.{IsGathering, gathering, encoded_within, forms_tell}
use Rattle.speedy_layout.specs.Laws.{Laws, Codec, Laws-asking, Decided}
use Rattle.speedy_layout.specs.Lengths.{Counting}
use Rattle.speedy_layout.specs.Lists.{repeat, vector, vector_codec, each_as, each_ends, each_has_written, each_shortest}
use Rattle.speedy_layout.specs.Members.{IsIn, AreDistinct, IsIn-left, IsIn-right, IsIn-either}
use Rattle.speedy_layout.specs.Owned.{owned_content}
use Rattle.speedy_layout.specs.Sequences.{AsksAtMost, asks_same, neither}

-- ---- how many items there are

module _ {X : Type 0} where
  -- distinct items that lie inside a list are no more than its items
  no_more : (xs ys : List X) → AreDistinct xs → ((x : X) → IsIn x xs → IsIn x ys) → length xs ≤ length ys
  no_more xs ys d inside = (encoded_within any xs ys [] d inside (each ys)).count where
    any : X → List ℕ → Type 0
    any x b = Unit {0}

    each : (zs : List X) → Each any zs []
    each [] = refl
    each (z ∷ zs) = record { prefix = []; suffix = []; whole_is = refl; first_is = tt; second_is = each zs }

  -- and where the list has no more items than these, its own are distinct
  pub distinct_too : (xs before ys : List X) → AreDistinct xs → ((x : X) → IsIn x xs → IsIn x (before ++ ys))
      → length (before ++ ys) ≤ length xs → AreDistinct ys
  distinct_too xs before [] d inside fewer = tt
  distinct_too xs before (y ∷ ys) d inside fewer = (
    λ again.
        let without = no_more xs (before ++ ys) d (λ x s. elim (IsIn-either x before (y ∷ ys) (inside x s)) [
          | inl t ↦ IsIn-left x before ys t
          | inr t ↦ IsIn-right x before ys (elim t [ inl e ↦ subst (λ z. IsIn z ys) (sym e) again | inr u ↦ u ])
        ]) in
        let l = length-append before (y ∷ ys) in
        let m = length-append before ys in
        absurd (omega arith),
    let same = append_assoc before (y ∷ []) ys in
        distinct_too xs (before ++ y ∷ []) ys d (λ x s. subst (IsIn x) (sym same) (inside x s))
        (subst (λ zs. length zs ≤ length xs) (sym same) fewer),
  )

-- What is said of lists in which nothing is repeated, as `single` says, and of the things that they stand for.
pub record IsSingle {E S : Type 0} (stands : List E → S → Type 0) (single : List E → Type 0) : Type 0 where
  -- no item stands twice in such a list
  pub distinct : (xs : List E) → single xs → AreDistinct xs
  -- it lies inside every list that stands for the same thing
  pub inside : (xs ys : List E) (s : S) → single xs → stands xs s → stands ys s → (e : E) → IsIn e xs → IsIn e ys
  -- which is such a list itself, if it is no longer
  pub no_longer : (xs ys : List E) (s : S) → single xs → stands xs s → stands ys s → length ys ≤ length xs → single ys

-- two of them that stand for one thing have one length
pub one_length : {E S : Type 0} {stands : List E → S → Type 0} {single : List E → Type 0} → IsSingle stands single
    → (xs ys : List E) (s : S) → single xs → single ys → stands xs s → stands ys s → length xs ≡ length ys
one_length is xs ys s d e h k =
    let no_less = no_more xs ys (is.distinct xs d) (is.inside xs ys s d h k) in
    let no_greater = no_more ys xs (is.distinct ys e) (is.inside ys xs s e k h) in
    omega arith

-- What makes it lawful that things have a length, that of such a list that stands for them.
pub record HasLengths {E S : Type 0} (stands : List E → S → Type 0) (written single : List E → Type 0)
    (count : S → ℕ) : Type 0 where
  pub is_single : IsSingle stands single
  -- the thing has a form, in which nothing is repeated
  pub form : (xs : List E) (s : S) → single xs → stands xs s → (ys : List E) × stands ys s × written ys × single ys
  -- and has the length of the list
  pub long : (xs : List E) (s : S) → single xs → stands xs s → length xs ≡ count s

-- Things that are forms themselves: a list that stands for one is another list, its form.
abbrev pub AreForms : {E : Type 0} → (List E → List E → Type 0) → (written single : List E → Type 0) → Type 0
AreForms {E = E} stands written single = (xs ys : List E) → stands xs ys → stands ys ys × written ys × single ys

-- Their length is their own.
pub own_lengths : {E : Type 0} {stands : List E → List E → Type 0} {written single : List E → Type 0}
    → IsSingle stands single → AreForms stands written single → HasLengths stands written single length
own_lengths is own = record {
  is_single = is;
  form = λ xs ys d h. let o = own xs ys h in (ys, o.0, o.1, o.2);
  long = λ xs ys d h. let o = own xs ys h in one_length is xs ys ys d o.2 h o.0;
}

-- A thing that does not tell its length has it beside it.
abbrev pub beside_length : {E S : Type 0} → (List E → S → Type 0) → List E → S × ℕ → Type 0
beside_length stands xs p = stands xs p.0 × (length xs ≡ p.1)

module _ {E S : Type 0} {stands : List E → S → Type 0} {written : List E → Type 0} where
  pub IsGathering-beside : {hashed : Bool} → IsGathering hashed stands written
      → IsGathering hashed (beside_length stands) written
  IsGathering-beside is = record {
    one_thing = λ xs p q h k. same p q (is.one_thing xs p.0 q.0 h.0 k.0) (sym h.1 ∙ k.1);
    form_distinct = is.form_distinct;
    form_inside = λ xs ys p w h k. is.form_inside xs ys p.0 w h.0 k.0;
    one_form = λ ordered xs ys p w z h k. is.one_form ordered xs ys p.0 w z h.0 k.0;
    one_hashed = λ unordered xs ys p q w z h k there suffix.
        let fewer = no_more xs ys (is.form_distinct xs w) there in
        let more = no_more ys xs (is.form_distinct ys z) suffix in
        let long : length xs ≡ length ys = omega arith in
        same p q (is.one_hashed unordered xs ys p.0 q.0 w z h.0 k.0 there suffix) (sym h.1 ∙ (long ∙ k.1));
  } where
    same : (p q : S × ℕ) → p.0 ≡ q.0 → p.1 ≡ q.1 → p ≡ q
    same p q e f = λ i. (e i, f i)

  pub HasLengths-beside : IsSingle stands written → HasLengths (beside_length stands) written written (λ p. p.1)
  HasLengths-beside is = record {
    is_single = record {
      distinct = is.distinct;
      inside = λ xs ys p d h k. is.inside xs ys p.0 d h.0 k.0;
      no_longer = λ xs ys p d h k. is.no_longer xs ys p.0 d h.0 k.0;
    };
    form = λ xs p d h. (xs, h, d, d);
    long = λ xs p d h. h.1;
  }

-- ---- their format

-- n items, of which nothing is repeated; else they are refused as a length that is out of range
abbrev pub single_items : {E : Type 0} → Mode → (List E → Type 0) → ℕ → Format E → Format (List E)
single_items mode single n L = subset mode single kinds.OutOfRangeLength (vector n L)

-- what is asked where things have no order of their own
abbrev pub asks_unordered : Bool → Asks → Asks
asks_unordered hashed asks = record asks { hashed = hashed || asks.hashed }

-- things that are encoded as n items that gather to them
abbrev pub gathered_of_length : {E S : Type 0} → Bool → Mode → (List E → S → Type 0)
    → (written single : List E → Type 0)
    → ℕ → Format E → Format S
gathered_of_length hashed mode stands written single n L =
    let items = single_items mode single n L in
    coding mode (gathering stands written) (record items { asks = asks_unordered hashed items.asks })

-- ---- its laws

module _ {E : Type 0} (mode : Mode) (single : List E → Type 0) (n : ℕ) (L : Format E) (xs : List E)
    (b : List ℕ) where
  pub single_encoded : (single_items mode single n L).encodes xs b
      → (length xs ≡ n) × Each L.encodes xs b × single xs
  unfolding coding vector owned_content repeat
  single_encoded h =
      let is = Accepts-exact_means mode.strict _ _ _ _ h.stands in
      subst (λ ys. (length ys ≡ n) × Each L.encodes ys b × single ys) is.0
      (h.code_is.0, h.code_is.1, subst single (sym is.0) is.1)

  pub encoded_single : length xs ≡ n → Each L.encodes xs b → single xs → (single_items mode single n L).encodes xs b
  unfolding coding vector owned_content repeat
  encoded_single long each d =
      record { code = xs; code_is = (long, each); stands = Accepts-exact mode.strict _ _ xs xs (refl, d) }

  pub single_written : (single_items mode single n L).writes xs b → (length xs ≡ n) × Each L.writes xs b × single xs
  unfolding coding vector owned_content repeat
  single_written h =
      subst (λ ys. (length ys ≡ n) × Each L.writes ys b × single ys) h.stands.0
      (h.code_is.0, h.code_is.1, subst single (sym h.stands.0) h.stands.1)

  pub written_single : length xs ≡ n → Each L.writes xs b → single xs → (single_items mode single n L).writes xs b
  unfolding coding vector owned_content repeat
  written_single long each d = record { code = xs; code_is = (long, each); stands = (refl, d) }

module _ {E S : Type 0} {hashed : Bool} {stands : List E → S → Type 0} {written single : List E → Type 0}
    {count : S → ℕ} (mode : Mode) {least : ℕ} {L : Format E} (laws : Laws mode.strict least L)
    (is : IsGathering hashed stands written) (has : HasLengths stands written single count) (n : ℕ) where
  -- a form that is encoded
  form_encoded : (s : S) (b : List ℕ) → Coded (single_items mode single n L).encodes stands s b → (ys : List E)
      → stands ys s → single ys → (d : List ℕ) × (length ys ≡ n) × Each L.encodes ys d
  form_encoded s b h ys stands_for d =
      let x = single_encoded mode single n L h.code b h.code_is in
      let w = encoded_within L.encodes ys h.code b (has.is_single.distinct ys d)
      (has.is_single.inside ys h.code s d stands_for h.stands) x.1 in
      (w.shorter, one_length has.is_single ys h.code s d x.2 stands_for h.stands ∙ x.0, w.encoded)

  some_form : (s : S) (b : List ℕ) → Coded (single_items mode single n L).encodes stands s b
      → (d : List ℕ) × Coded (single_items mode single n L).encodes (gathering stands written).chosen s d
  some_form s b h =
      let x = single_encoded mode single n L h.code b h.code_is in
      let f = has.form h.code s x.2 h.stands in
      let e = form_encoded s b h f.0 f.1 f.3 in (
        e.0,
        record {
          code = f.0;
          code_is = encoded_single mode single n L f.0 e.0 e.1 e.2 f.3;
          stands = (f.1, f.2);
        },
      )

  shortest_form : (s : S) (b d : List ℕ)
      → Coded (single_items mode single n L).writes (gathering stands written).chosen s b
      → Coded (single_items mode single n L).encodes stands s d → length b ≤ length d
  shortest_form s b d h k =
      let x = single_written mode single n L h.code b h.code_is in
      let y = single_encoded mode single n L k.code d k.code_is in
      let w = encoded_within L.encodes h.code k.code d (has.is_single.distinct h.code x.2)
      (has.is_single.inside h.code k.code s x.2 h.stands.0 k.stands) y.1 in
      let shortest = each_shortest laws h.code b w.shorter x.1 w.encoded in
      let size = w.size in
      omega arith

  -- each form of a thing that has an encoding has one itself
  pub of_length_form : (s : S) (b : List ℕ)
      → (gathered_of_length hashed mode stands written single n L).encodes s b → (ys : List E) → stands ys s → single ys
      → (d : List ℕ) × (vector n L).encodes ys d
  unfolding coding vector owned_content repeat
  of_length_form s b h ys stands_for d =
      let read : Coded (single_items mode single n L).encodes stands s b = record {
        code = h.code;
        code_is = h.code_is;
        stands = Accepts-means mode.strict (gathering stands written) h.code s (λ c. c.0) h.stands;
      } in
      let e = form_encoded s b read ys stands_for d in
      (e.0, (e.1, e.2))

  -- and is written in just as many bytes as the thing
  pub of_length_form_length : (s : S) (b : List ℕ)
      → (gathered_of_length hashed mode stands written single n L).writes s b → (ys : List E) → stands ys s → written ys
      → single ys → (d : List ℕ) × (vector n L).writes ys d × (length d ≡ length b)
  unfolding coding vector owned_content repeat
  of_length_form_length s b h ys stands_for is_written d =
      let x = single_written mode single n L h.code b h.code_is in
      let read = encoded_single mode single n L h.code b x.0 (each_as laws.written_encodes h.code b x.1) x.2 in
      let e = form_encoded s b (record { code = h.code; code_is = read; stands = h.stands.0 }) ys stands_for d in
      let w = each_has_written laws ys e.0 e.2 in
      let form = written_single mode single n L ys w.0 e.1 w.1 d in
      let form_read = encoded_single mode single n L ys w.0 e.1 (each_as laws.written_encodes ys w.0 w.1) d in
      let no_less = shortest_form s b w.0 (record { code = h.code; code_is = h.code_is; stands = h.stands })
      (record { code = ys; code_is = form_read; stands = stands_for }) in
      let no_more = shortest_form s w.0 b (record { code = ys; code_is = form; stands = (stands_for, is_written) })
      (record { code = h.code; code_is = read; stands = h.stands.0 }) in
      (w.0, (e.1, w.1), omega arith)

  things_tell : (s t : S) (b d : List ℕ) → Coded (single_items mode single n L).encodes stands s b
      → Coded (single_items mode single n L).encodes stands t d → Decided (s ≡ t)
  things_tell s t b d h k =
      let x = some_form s b h in
      let y = some_form t d k in
      forms_tell hashed refl laws is x.1.code y.1.code x.0 y.0
      (single_encoded mode single n L x.1.code x.0 x.1.code_is).1
      (single_encoded mode single n L y.1.code y.0 y.1.code_is).1 s t x.1.stands y.1.stands

  pub of_length_is_code : let items = single_items mode single n L in
      IsCode (gathering stands written) (record items { asks = asks_unordered hashed items.asks })
  of_length_is_code = record {
    one_meaning = is.one_thing;
    one_chosen = λ no xs ys s h k. is.one_form (neither hashed _ no).0 xs ys s h.1 k.1 h.0 k.0;
    tells = λ _ _. things_tell;
    chosen_means = λ xs s h. h.0;
    has_chosen = some_form;
    chosen_shortest = λ _. shortest_form;
    refusals_own = λ kind h. absurd h;
  }

abbrev pub gathered_of_length_codec : {E S : Type 0} {hashed : Bool} {stands : List E → S → Type 0}
    {written single : List E → Type 0} {count : S → ℕ} → IsGathering hashed stands written
    → HasLengths stands written single count → Codec E → ℕ → Codec S
gathered_of_length_codec {hashed = hashed} {stands = stands} {written = written} {single = single} is has item n =
    let items = subset_codec single kinds.OutOfRangeLength tt (vector_codec n item) in
    record {
      least = items.least;
      format = λ f. gathered_of_length hashed f stands written single n (item.format f);
      laws = λ f.
          coding_laws f (Laws-asking (asks_unordered hashed (items.format f).asks)
          (λ no. (neither hashed _ no).1) (omega arith) (items.laws f))
          (of_length_is_code f (item.laws f) is has n);
      same_written = λ f strict. coding_written f (record f { strict = strict }) (gathering stands written)
          (record { too = (items.same_written f strict).too });
    }

module _ {E S : Type 0} {hashed : Bool} {stands : List E → S → Type 0} {written single : List E → Type 0}
    {count : S → ℕ} (is : IsGathering hashed stands written) (has : HasLengths stands written single count)
    (f : Mode) where
  pub of_length_asks : (n : ℕ) (L : Format E)
      → AsksAtMost (gathered_of_length hashed f stands written single n L).asks
      (asks_unordered hashed (record L.asks { memory = true }))
  unfolding coding vector owned_content repeat
  of_length_asks n L = asks_same

  -- what is encoded is read of a list of so many items, in which nothing is repeated
  pub of_length_encoded : (n : ℕ) (L : Format E) (s : S) (b : List ℕ)
      → (gathered_of_length hashed f stands written single n L).encodes s b
      → (xs : List E) × (length xs ≡ n) × Each L.encodes xs b × single xs × stands xs s
  unfolding coding
  of_length_encoded n L s b h =
      let x = single_encoded f single n L h.code b h.code_is in
      (h.code, x.0, x.1, x.2, Accepts-means f.strict (gathering stands written) h.code s (λ c. c.0) h.stands)

  pub of_length_count : (n : ℕ) (L : Format E) (s : S) (b : List ℕ)
      → (gathered_of_length hashed f stands written single n L).encodes s b → count s ≡ n
  of_length_count n L s b h =
      let x = of_length_encoded n L s b h in
      sym (has.long x.0 s x.3 x.4) ∙ x.1

  pub of_length_ends : {least : ℕ} {L : Format E} → Laws f.strict least L → (n m : ℕ) (s t : S) (b : List ℕ)
      → (gathered_of_length hashed f stands written single n L).encodes s b
      → (gathered_of_length hashed f stands written single m L).encodes t b → (b ≡ [] → ⊥) → n ≡ m
  of_length_ends {L = L} laws n m s t b h k some =
      let x = of_length_encoded n L s b h in
      let y = of_length_encoded m L t b k in
      sym x.1 ∙ (each_ends laws x.0 y.0 b some x.2 y.2 ∙ y.1)

-- things of n items
abbrev pub gathered_counting : {E S : Type 0} {hashed : Bool} {stands : List E → S → Type 0}
    {written single : List E → Type 0} {count : S → ℕ} → IsGathering hashed stands written
    → HasLengths stands written single count → Codec E → Counting S
gathered_counting {hashed = hashed} {count = count} is has item = record {
  count = count;
  of_length = gathered_of_length_codec is has item;
  asks = λ f. asks_unordered hashed (record (item.format f).asks { memory = true });
  within = λ f n. of_length_asks is has f n (item.format f);
  is_count = λ f n s b h. of_length_count is has f n (item.format f) s b h;
  ends = λ f n m s t b h k some. of_length_ends is has f (item.laws f) n m s t b h k some;
}
