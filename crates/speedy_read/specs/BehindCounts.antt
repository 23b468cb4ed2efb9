-- Lists and texts behind a count of any format: a count is read, and then the items or bytes.
use Rattle.std.specs.Prelude.{◌≡◌, ℕ, List, ◌++◌, length, refl}
use Rattle.std.proofs.Common.{◌∙◌, ap, inl, inr}
use Rattle.std.proofs.lemmas.List.{append_assoc}
use Rattle.speedy_base.specs.Mode.{Mode}
use Rattle.speedy_layout.specs.Codes.{Codebook, coding}
use Rattle.speedy_layout.specs.Format.{Asks, Format}
use Rattle.speedy_layout.specs.Laws.{Codec}
use Rattle.speedy_layout.specs.Lengths.{Counting, text_length}
use Rattle.speedy_layout.specs.Lists.{vector, vector_length, vector_asks, prefixed_list}
use Rattle.speedy_layout.specs.Sequences.{AsksAtMost, counted_parts, so_many, sequence, Parts-as}
use Rattle.speedy_layout.specs.Texts.{text_of_length, text_asks, prefixed_text}
use Rattle.speedy_read.specs.Sequences.{Composes, sequence_composes}

-- values of a length behind that length
abbrev pub counted : {V : Type 0} → Codec ℕ → Counting V → Mode → Format V
counted {V = V} number counting f =
    sequence (λ v. let parts : ℕ × V = (counting.count v, v) in parts) (number.format f) (counting.asks f)
    (λ n. (counting.of_length n).format f)

pub counted_composes : {V : Type 0} (number : Codec ℕ) (counting : Counting V) (f : Mode)
    → Composes (number.format f) (λ n. (counting.of_length n).format f) (counted number counting f) (λ n v. v)
counted_composes {V = V} number counting f =
    sequence_composes (λ v. let parts : ℕ × V = (counting.count v, v) in parts) (counting.within f)
    (λ n v s h. ap (λ (m : ℕ). let parts : ℕ × V = (m, v) in parts) (counting.is_count f n v s h))

pub prefixed_list_composes : {V : Type 0} (count : Format ℕ) (F : Format V)
    → Composes count (λ n. vector n F) (prefixed_list count F) (λ n vs. vs)
prefixed_list_composes count F =
    sequence_composes counted_parts (vector_asks F) (λ n vs s h. so_many n vs (vector_length n F vs s h))

pub prefixed_text_composes : (mode : Mode) (count : Format ℕ)
    → Composes count (text_of_length mode) (prefixed_text mode count) (λ n t. t)
prefixed_text_composes mode count =
    sequence_composes counted_parts (text_asks mode) (λ n t s h. so_many n t (text_length mode n t s h))

-- a list behind its number of items is a code: the number is read, and then what the list stands for
pub counted_code_composes : {A V : Type 0} (mode : Mode) (c : Codebook (List A) V) (count : Format ℕ) {asks : Asks}
    (M : ℕ → Format (List A)) → ((n : ℕ) → AsksAtMost (M n).asks asks)
    → ((n : ℕ) (items : List A) (s : List ℕ) → (M n).encodes items s → length items ≡ n)
    → Composes count (λ n. coding mode c (M n)) (coding mode c (sequence counted_parts count asks M)) (λ n v. v)
unfolding coding sequence
counted_code_composes mode c count {asks = asks} M within number =
    let parts : Composes count M (sequence counted_parts count asks M) (λ n items. items) =
    sequence_composes counted_parts within (λ n items s h. so_many n items (number n items s h)) in
    record {
      joins = λ n v s t h k. record {
        code = k.code;
        code_is = parts.joins n k.code s t h k.code_is;
        stands = k.stands;
      };
      splits = λ v bytes h. (
        length h.code,
        v,
        Parts-as (λ a k. k) (λ a k. record { code = h.code; code_is = k; stands = h.stands }) h.code_is,
      );
      names_first = λ kind h. inl (parts.names_first kind h);
      names_second = λ n kind h. elim h [ inl x ↦ inl (parts.names_second n kind x) | inr x ↦ inr x ];
      malformed = λ bytes h.
          elim h [
            | inl (inl x) ↦ inl x
            | inl (inr x) ↦ inr (x.0, Parts-as (λ a k. k) (λ a k. inl k) x.1)
            | inr x ↦
                let list = x.code_is in
                inr (
                  length x.code,
                  record {
                    prefix = list.prefix;
                    suffix = list.suffix ++ x.rest;
                    whole_is = x.whole_is
                        ∙ (ap (λ s. s ++ x.rest) list.whole_is ∙ append_assoc list.prefix list.suffix x.rest);
                    first_is = list.first_is;
                    second_is = inr (record {
                      code = x.code;
                      prefix = list.suffix;
                      rest = x.rest;
                      whole_is = refl;
                      code_is = list.second_is;
                      nothing = x.nothing;
                    });
                  },
                )
          ];
      wrong_length = λ bytes h. h;
      asks_first = parts.asks_first;
      asks_second = parts.asks_second;
    }
