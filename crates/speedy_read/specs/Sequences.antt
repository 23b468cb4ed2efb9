-- Reads of two parts make reads of wholes.
use Rattle.std.specs.Prelude.{◌≡◌, ℕ, List, ◌++◌, ◌⊎◌, Result, Ok, Err, IsErrAnd, Bool, refl}
use Rattle.std.proofs.Common.{sym, ◌∙◌, ap, subst, inl, inr}
use Rattle.std.proofs.lemmas.List.{append_assoc}
use Rattle.speedy_base.specs.declared.error.ErrorKind.{ErrorKind}
use Rattle.speedy_base.specs.declared.error.Error.{Error}
use Rattle.speedy_base.specs.Error.{IsNamed-more}
use Rattle.speedy_layout.specs.Format.{Asks, Format, Parts, Parts-joined}
use Rattle.speedy_layout.specs.Laws.{Laws}
use Rattle.speedy_layout.specs.Sequences.{AsksAtMost, asks_same, asks_left, asks_right, asks_after, sequence}
use Rattle.speedy_layout.specs.Tuples.{pair}
use Rattle.speedy_read.specs.Reading.{ReaderState, Undecodable, Reads, Peeks}
use Rattle.speedy_read.specs.ReadingLemmas.{Kept-after, IsTold-after, IsTold-part, prefixes_nest, Reads-passed}
use Rattle.speedy_read.specs.ReadingLemmas.{part_refused, more_so_far, all_so_far}

-- a value of N is one of L and then one of M, which may depend on it
pub record Composes {U V : Type 0} {W : U → Type 0} (L : Format U) (M : (u : U) → Format (W u)) (N : Format V)
    (join : (u : U) → W u → V) : Type 0 where
  pub joins : (u : U) (w : W u) (s t : List ℕ) → L.encodes u s → (M u).encodes w t → N.encodes (join u w) (s ++ t)
  pub splits : (v : V) (s : List ℕ) → N.encodes v s → (u : U) × (w : W u) × Parts (L.encodes u) ((M u).encodes w) s
  pub names_first : (kind : ErrorKind) → L.names kind → N.names kind
  pub names_second : (u : U) (kind : ErrorKind) → (M u).names kind → N.names kind
  pub malformed : (bytes : List ℕ) → N.malformed bytes
      → L.malformed bytes ⊎ ((u : U) × Parts (L.encodes u) ((M u).malformed) bytes)
  pub wrong_length : (bytes : List ℕ) → N.wrong_length bytes
      → L.wrong_length bytes ⊎ ((u : U) × Parts (L.encodes u) ((M u).wrong_length) bytes)
  pub asks_first : AsksAtMost L.asks N.asks
  pub asks_second : (u : U) → AsksAtMost (M u).asks N.asks

-- a sequence is read as its first part and then its second; what is joined splits again where the second part is
-- encoded
pub sequence_composes : {U V : Type 0} {W : U → Type 0} (split : V → (u : U) × W u) {join : (u : U) → W u → V}
    {L : Format U} {asks : Asks} {M : (u : U) → Format (W u)}
    → ((u : U) → AsksAtMost (M u).asks asks)
    → ((u : U) (w : W u) (s : List ℕ) → (M u).encodes w s → let whole : (u : U) × W u = (u, w) in
    split (join u w) ≡ whole) → Composes L M (sequence split L asks M) join
unfolding sequence
sequence_composes {U = U} {W = W} split {L = L} {asks = asks} {M = M} within suffix = record {
  joins = λ u w s t h k.
      let whole : (u : U) × W u = (u, w) in
      subst (λ (p : (u : U) × W u). Parts (L.encodes p.0) ((M p.0).encodes p.1) (s ++ t)) (sym (suffix u w t k))
      (Parts-joined s t h k);
  splits = λ v s h. ((split v).0, (split v).1, h);
  names_first = λ kind h. inl h;
  names_second = λ u kind h. inr (u, h);
  malformed = λ bytes h. h;
  wrong_length = λ bytes h. h;
  asks_first = asks_left L.asks asks;
  asks_second = λ u. asks_after (within u) (asks_right L.asks asks);
}

-- two values are read one after the other
pub pair_composes : {U W : Type 0} {L : Format U} {M : Format W} → Composes L (λ _. M) (pair L M) (λ u w. (u, w))
pair_composes = sequence_composes (λ p. p) (λ _. asks_same) (λ u w s h. refl)

module _ {U V : Type 0} {W : U → Type 0} {L : Format U} {M : (u : U) → Format (W u)} {N : Format V}
    {join : (u : U) → W u → V} (c : Composes L M N join) {E : Type 0} {gives : Error → E → Type 0}
    {eof : E → Bool} where
  undecodable_first : {e : E} {bytes : List ℕ} → Undecodable gives eof L e bytes → Undecodable gives eof N e bytes
  undecodable_first {e = e} {bytes = bytes} un = record {
    no_prefix = λ v prefix rest is sp.
        let parts = c.splits v prefix sp in
        un.no_prefix parts.0 parts.2.prefix (parts.2.suffix ++ rest)
        (is ∙ (ap (λ x. x ++ rest) parts.2.whole_is ∙ append_assoc parts.2.prefix parts.2.suffix rest))
        parts.2.first_is;
    too_short = λ v more sp.
        let parts = c.splits v (bytes ++ more) sp in
        elim (prefixes_nest bytes more parts.2.prefix parts.2.suffix parts.2.whole_is) [
          | inl h ↦ un.too_short parts.0 h.0 (subst (L.encodes parts.0) h.1 parts.2.first_is)
          | inr h ↦ absurd (un.no_prefix parts.0 parts.2.prefix h.0 h.1 parts.2.first_is)
        ];
    malformed = λ bad.
        elim (c.malformed bytes bad) [
          | inl h ↦ IsNamed-more gives e c.names_first (un.malformed h)
          | inr h ↦ absurd (un.no_prefix h.0 h.1.prefix h.1.suffix h.1.whole_is h.1.first_is)
        ];
    wrong_length = λ wrong.
        elim (c.wrong_length bytes wrong) [
          | inl h ↦ un.wrong_length h
          | inr h ↦ absurd (un.no_prefix h.0 h.1.prefix h.1.suffix h.1.whole_is h.1.first_is)
        ];
  }

  -- where the first part is refused, the whole is
  pub refused_first : {A B : Type 0} {seen : A → U} {seen' : B → V} {e : E} {result : Result B E}
      {old new : ReaderState}
      → IsErrAnd result (λ x. x ≡ e) → Reads gives eof seen L (Err e) old new → Reads gives eof seen' N result old new
  refused_first {new = new} passed r = Reads-passed passed (record {
    kept = r.kept;
    answer = part_refused new refl refl c.asks_first.memory c.asks_first.lending c.names_first
        (λ told un. undecodable_first (un (IsTold-part c.asks_first.lending told))) r.answer;
  })

  pub peek_refused_first : {A B : Type 0} {seen : A → U} {seen' : B → V} {e : E} {old new : ReaderState}
      → Peeks gives eof seen L (Err e) old new → Peeks gives eof seen' N (Err e) old new
  peek_refused_first {new = new} r = record {
    kept = r.kept;
    answer = elim r.answer [
      | inl h ↦ inl h
      | inr h ↦ inr (part_refused new refl refl c.asks_first.memory c.asks_first.lending c.names_first
          (λ told un. undecodable_first (un (IsTold-part c.asks_first.lending told))) h)
    ];
  }

  undecodable_second : {strict : Bool} {least : ℕ} → Laws strict least L → (u : U) {e : E} (prefix rest : List ℕ)
      → L.encodes u prefix
      → Undecodable gives eof (M u) e rest → Undecodable gives eof N e (prefix ++ rest)
  undecodable_second laws u {e = e} prefix rest first un = record {
    no_prefix = λ v whole tail is sp.
        let parts = c.splits v whole sp in
        let same = laws.decodes u parts.0 prefix parts.2.prefix rest (parts.2.suffix ++ tail) first parts.2.first_is
        (is ∙ (ap (λ x. x ++ tail) parts.2.whole_is ∙ append_assoc parts.2.prefix parts.2.suffix tail)) in
        let second =
        subst (λ (x : U). (w : W x) × (M x).encodes w parts.2.suffix) (sym same.0) (parts.1, parts.2.second_is) in
        un.no_prefix second.0 parts.2.suffix tail same.2 second.1;
    too_short = λ v more sp.
        let parts = c.splits v ((prefix ++ rest) ++ more) sp in
        let same = laws.decodes u parts.0 prefix parts.2.prefix (rest ++ more) parts.2.suffix first parts.2.first_is
        (sym (append_assoc prefix rest more) ∙ parts.2.whole_is) in
        let second =
        subst (λ (x : U). (w : W x) × (M x).encodes w parts.2.suffix) (sym same.0) (parts.1, parts.2.second_is) in
        un.too_short second.0 more (subst (λ (x : List ℕ). (M u).encodes second.0 x) (sym same.2) second.1);
    malformed = λ bad.
        elim (c.malformed (prefix ++ rest) bad) [
          | inl h ↦ absurd (laws.malformed_undecodable u prefix rest h first)
          | inr h ↦
              let same = laws.decodes u h.0 prefix h.1.prefix rest h.1.suffix first h.1.first_is h.1.whole_is in
              IsNamed-more gives e (c.names_second u)
              (un.malformed (subst (λ (x : List ℕ). (M u).malformed x) (sym same.2)
              (subst (λ (x : U). (M x).malformed h.1.suffix) (sym same.0) h.1.second_is)))
        ];
    wrong_length = λ wrong.
        elim (c.wrong_length (prefix ++ rest) wrong) [
          | inl h ↦
              let bad = laws.wrong_length_malformed (prefix ++ rest) h in
              absurd (laws.malformed_undecodable u prefix rest bad first)
          | inr h ↦
              let same = laws.decodes u h.0 prefix h.1.prefix rest h.1.suffix first h.1.first_is h.1.whole_is in
              un.wrong_length (subst (λ (x : List ℕ). (M u).wrong_length x) (sym same.2)
              (subst (λ (x : U). (M x).wrong_length h.1.suffix) (sym same.0) h.1.second_is))
        ];
  }

  -- where the second part is refused, the whole is
  pub refused_second : {strict : Bool} {least : ℕ} → Laws strict least L
      → {A B D : Type 0} {first : D → U} {x : D} {seen : A → W (first x)} {seen' : B → V} {e : E} {result : Result B E}
      {old mid new : ReaderState}
      → Reads gives eof first L (Ok x) old mid → IsErrAnd result (λ x. x ≡ e)
      → Reads gives eof seen (M (first x)) (Err e) mid new → Reads gives eof seen' N result old new
  refused_second laws {first = first} {x = x} {e = e} {mid = mid} {new = new} h passed k = Reads-passed passed (record {
    kept = Kept-after h.kept k.kept;
    answer = part_refused new h.kept.fixed h.answer.no_fault (c.asks_second (first x)).memory
        (c.asks_second (first x)).lending (c.names_second (first x))
        (λ told un.
        subst (λ (bytes : List ℕ). Undecodable gives eof N e bytes) (sym (h.answer.taken told.tells))
        (undecodable_second laws (first x) h.answer.prefix mid.remaining h.answer.prefix_is
        (un (IsTold-after h.kept (c.asks_second (first x)).lending told))))
        k.answer;
  })

  -- both parts are read
  pub got_both : {A B D : Type 0} {first : D → U} {x : D} {seen : A → W (first x)} {y : A} {seen' : B → V} {z : B}
      {old mid new : ReaderState}
      → Reads gives eof first L (Ok x) old mid → Reads gives eof seen (M (first x)) (Ok y) mid new
      → seen' z ≡ join (first x) (seen y)
      → Reads gives eof seen' N (Ok z) old new
  got_both {first = first} {x = x} {seen = seen} {y = y} h k e =
      all_so_far (more_so_far {more = N.encodes (join (first x) (seen y))} (record {
        kept = h.kept;
        got = h.answer;
      }) k (c.joins (first x) (seen y)))
      (λ s sp. subst (λ (v : V). N.encodes v s) (sym e) sp)

  -- the second part decides
  pub second_decides : {strict : Bool} {least : ℕ} → Laws strict least L
      → {A D : Type 0} {first : D → U} {x : D} {seen : A → W (first x)} {seen' : A → V} {r : Result A E}
      {old mid new : ReaderState}
      → Reads gives eof first L (Ok x) old mid → Reads gives eof seen (M (first x)) r mid new
      → ((y : A) → seen' y ≡ join (first x) (seen y))
      → Reads gives eof seen' N r old new
  second_decides laws {r = Ok y} h k same = got_both h k (same y)
  second_decides laws {r = Err e} h k same = refused_second laws h refl k
