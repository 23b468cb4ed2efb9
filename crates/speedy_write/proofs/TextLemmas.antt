-- How many bytes texts take: their lengths are added without a test of each, and are joined by `|`, to be tested at
-- once.
use Rattle.std.specs.Prelude.{◌≡◌, ℕ, ◌+◌, ◌*◌, ◌^◌, ◌%◌, ◌<◌, ◌≤◌, List, [], ◌∷◌, ◌++◌, length, map, take, bit_or}
use Rattle.std.specs.Prelude.{refl}
use Rattle.std.specs.Str.{IsUtf8}
use Rattle.std.proofs.Common.{arith, subst, sym, ap, ◌∙◌, inr}
use Rattle.std.proofs.Math.ListN.{get_or}
use Rattle.std.proofs.lemmas.List.{length-append, map-append, take_all}
use Rattle.std.proofs.lemmas.Nat.{le_or_l, le_or_r, or_of_32}
use Rattle.speedy_base.specs.Digits.{digits}
use Rattle.speedy_base.specs.DigitsLemmas.{EncodesNumber-below, EncodesNumber-digits, length-digits}
use Rattle.speedy_base.specs.Mode.{Mode}
use Rattle.speedy_layout.specs.Codes.{coding}
use Rattle.speedy_layout.specs.Format.{Each, Format, Parts-joined}
use Rattle.speedy_layout.specs.Laws.{Laws}
use Rattle.speedy_layout.specs.Lists.{repeat, repeat_laws}
use Rattle.speedy_layout.specs.Numbers.{unsigned_number}
use Rattle.speedy_layout.specs.Owned.{owned_content, borrowed_content}
use Rattle.speedy_layout.specs.Sequences.{sequence}
use Rattle.speedy_layout.specs.Texts.{raw_bytes, text, text_of_length}
use Rattle.speedy_layout.specs.Wholes.{whole_laws}
use Rattle.speedy_write.specs.Counting.{AreTooLong, CountsEach, HasSize}
use Rattle.speedy_write.specs.Sequences.{one_whole_length}
use Rattle.speedy_write.proofs.CountLemmas.{one_more_counted}
use Rattle.speedy_write.proofs.ListLemmas.{Each-parts, first_items}

-- a text whose length four bytes hold takes these and as many bytes as it has
pub text_takes : (mode : Mode) (v : List ℕ) → IsUtf8 v → length v < 2 ^ 32 → HasSize (text mode).writes v (length v + 4)
unfolding text text_of_length owned_content coding raw_bytes sequence unsigned_number
text_takes mode v utf8 few =
    let count = digits mode.order 4 (length v) in (
      count ++ v,
      Parts-joined count v (EncodesNumber-digits 4 mode.order (length v) (omega (arith, few)))
          (record { code = v; code_is = (refl, refl); stands = (refl, utf8) }),
      omega (arith, length-digits mode.order 4 (length v), length-append count v),
    )

-- and other texts have no encoding
pub text_is_short : (mode : Mode) (v bytes : List ℕ) → (text mode).writes v bytes → length v < 2 ^ 32
unfolding text text_of_length owned_content coding raw_bytes sequence unsigned_number
text_is_short mode v bytes h = EncodesNumber-below 4 mode.order (length v) h.prefix h.first_is

-- and one that is borrowed takes as many
pub borrowed_takes : {V : Type 0} (F : Format V) {v : V} {size : ℕ} → HasSize F.writes v size
    → HasSize (borrowed_content F).writes v size
unfolding borrowed_content
borrowed_takes F h = h

pub borrowed_written : {V : Type 0} (F : Format V) {v : V} {bytes : List ℕ} → (borrowed_content F).writes v bytes
    → F.writes v bytes
unfolding borrowed_content
borrowed_written F h = h

-- The sum is that of the lengths of the first texts, unless one of them is too long. That then shows in what they are
-- joined to, and together they have no encoding.
pub record Joined {A V : Type 0} (F : Mode → Format V) (seen : A → V) (texts : List A) (i joined sum : ℕ) : Type 0 where
  pub counted : joined < 2 ^ 32 → (sum ≤ i * 4294967295)
      × ((mode : Mode) → CountsEach (F mode).writes (map seen (take i texts)) (sum + 4 * i))
  pub short : (mode : Mode) (bytes : List ℕ) → Each (F mode).writes (map seen (take i texts)) bytes → joined < 2 ^ 32

module _ {A V : Type 0} (F : Mode → Format V) (seen : A → V) (texts : List A) where
  pub none_joined : Joined F seen texts 0 0 0
  none_joined = record {
    counted = λ _. (omega arith, λ mode. ([], refl, refl));
    short = λ _ _ _. omega arith;
  }

  -- one more
  pub one_more_joined : {x : A} {i joined sum size : ℕ} → i < length texts → length texts ≤ 4294967295
      → x ≡ get_or texts i x → Joined F seen texts i joined sum
      → ((mode : Mode) → size < 2 ^ 32 → HasSize (F mode).writes (seen x) (size + 4))
      → ((mode : Mode) (bytes : List ℕ) → (F mode).writes (seen x) bytes → size < 2 ^ 32)
      → Joined F seen texts (i + 1) (bit_or joined size) ((sum + size) % 2 ^ 64)
  one_more_joined {x = x} {i = i} {joined = joined} {sum = sum} {size = size} within few is h takes short = record {
    counted = λ below.
        let left = le_or_l joined size in
        let right = le_or_r joined size in
        let so_far = h.counted (omega (arith, left, below)) in
        let short : size < 2 ^ 32 = omega (arith, right, below) in
        let same : (sum + size) % 2 ^ 64 ≡ sum + size = omega (arith, so_far.0, short, within, few) in (
          omega (arith, same, so_far.0, short),
          λ mode. subst (CountsEach (F mode).writes (map seen (take (i + 1) texts)))
              {x = (sum + 4 * i) + (size + 4)} (omega (arith, same))
              (one_more_counted (F mode).writes seen texts i within is (so_far.1 mode) (takes mode short)),
        );
    short = λ mode bytes k.
        let writes = (F mode).writes in
        let before = map seen (take i texts) in
        let both = subst (λ (vs : List V). Each writes vs bytes)
        (ap (map seen) (first_items texts i within is) ∙ map-append seen (take i texts) (x ∷ [])) k in
        let parts = Each-parts writes before (seen x ∷ []) bytes both in
        or_of_32 joined size (h.short mode parts.prefix parts.first_is)
        (short mode parts.second_is.prefix parts.second_is.first_is);
  }

  module _ {i joined sum : ℕ} (all : i ≡ length texts) (h : Joined F seen texts i joined sum) where
    all_texts : take i texts ≡ texts
    all_texts = take_all i texts (omega (arith, all))

    -- all of them
    pub all_joined : {size : ℕ} → joined < 2 ^ 32 → size ≡ sum + 4 * length texts
        → (mode : Mode) → CountsEach (F mode).writes (map seen texts) size
    all_joined {size = size} short is mode =
        subst (λ (ts : List A). CountsEach (F mode).writes (map seen ts) size) all_texts
        (subst (CountsEach (F mode).writes (map seen (take i texts))) {x = sum + 4 * i} (omega (arith, all, is))
        ((h.counted short).1 mode))

    -- one of which is too long
    pub one_too_long : 2 ^ 32 ≤ joined → AreTooLong F (map seen texts)
    one_too_long long =
        inr (λ mode bytes k.
        let texts_of = λ (ts : List A). Each (F mode).writes (map seen ts) bytes in
        let below = h.short mode bytes (subst texts_of (sym all_texts) k) in
        absurd (omega (arith, below, long)))

    -- that take together more bytes than are counted
    pub all_too_long : {least : ℕ} → ((mode : Mode) → Laws mode.strict least (F mode)) → joined < 2 ^ 32
        → 2 ^ 64 ≤ sum + 4 * length texts → AreTooLong F (map seen texts)
    unfolding repeat
    all_too_long laws short past =
        inr (λ mode bytes k.
        let counted = all_joined short refl mode in
        let n = length (map seen texts) in
        let each_laws = whole_laws (repeat_laws (laws mode) n) in
        let same = one_whole_length each_laws (map seen texts) counted.0 bytes (refl, counted.1) (refl, k) in
        omega (arith, same, counted.2, past))
