-- Reads of entries up to a mark.
use Rattle.std.specs.Prelude.{map, ◌≡◌, ◌≢◌, ℕ, List, [], ◌∷◌, ◌++◌, Bool, IsTrue, Ok, Err, Result, IsErrAnd, refl}
use Rattle.std.proofs.Common.{sym, ◌∙◌, ap, subst, inl, inr}
use Rattle.std.proofs.lemmas.List.{append_assoc, append-nil}
use Rattle.speedy_base.specs.declared.error.ErrorKind.{ErrorKind}
use Rattle.speedy_base.specs.declared.error.ErrorKind.TheVariants as kinds
use Rattle.speedy_base.specs.declared.error.Error.{Error}
use Rattle.speedy_base.specs.Error.{error_of}
use Rattle.speedy_base.specs.Mode.{Mode}
use Rattle.speedy_layout.specs.Codecs.{Codec}
use Rattle.speedy_layout.specs.Codes.{coding, Accepts-exact}
use Rattle.speedy_layout.specs.Format.{Format, Each, Parts, Parts-joined}
use Rattle.speedy_layout.specs.Lists.{each_more}
use Rattle.speedy_layout.specs.Prefixed.{Numbers}
use Rattle.speedy_layout.specs.Sequences.{across, sequence}
use Rattle.speedy_layout.specs.Until.{until, until_joined, not_mark, entry_codec, entry_apart}
use Rattle.speedy_read.specs.Reading.{ReaderState, Kept, Reads}
use Rattle.speedy_read.specs.ReadingLemmas.{prefixes_nest, Kept-after, IsTold-after, part_refused, ReadSoFar}
use Rattle.speedy_read.specs.ReadingLemmas.{more_so_far, all_so_far, Reads-passed}
use Rattle.speedy_read.specs.Sequences.{pair_composes}
use Rattle.speedy_read.proofs.ListLemmas.{seen_added}

module _ {V : Type 0} (f : Mode) (numbers : Codec ℕ) (mark : ℕ) (item : Codec V) where
  -- an entry, the number of one and the mark, and all of them
  abbrev entry : Format (ℕ × V)
  entry = (entry_codec numbers mark item).format f

  abbrev number : Format ℕ
  number = numbers.format f

  abbrev whole : Format (List (ℕ × V))
  whole = until entry number mark

  -- entries, and then a number
  abbrev pub Numbered : List (ℕ × V) → ℕ → List ℕ → Type 0
  Numbered vs n = Parts (Each entry.encodes vs) (number.encodes n)

  -- what stands behind entries, in bytes that begin with them
  behind : (vs ws : List (ℕ × V)) (s t r q : List ℕ) → Each entry.encodes vs s → whole.encodes ws t
      → s ++ r ≡ t ++ q → (us : List (ℕ × V)) × (rest : List ℕ) × (r ≡ rest ++ q) × whole.encodes us rest
  unfolding until
  behind [] ws s t r q h k e = (ws, t, ap (λ x. x ++ r) (sym h) ∙ e, k)
  behind (v ∷ vs) [] s t r q h k e =
      absurd (entry_apart f numbers mark item v h.prefix t (h.suffix ++ r) q h.first_is k
      (sym (append_assoc h.prefix h.suffix r) ∙ (ap (λ x. x ++ r) (sym h.whole_is) ∙ e)))
  behind (v ∷ vs) (w ∷ ws) s t r q h k e =
      let joined = across s t r q h.prefix h.suffix k.prefix k.suffix h.whole_is k.whole_is e in
      let first = ((entry_codec numbers mark item).laws f).decodes v w h.prefix k.prefix (h.suffix ++ r) (k.suffix ++ q)
      h.first_is k.first_is joined in
      behind vs ws h.suffix k.suffix r q h.second_is k.second_is first.2

  -- they begin with a number
  begins : (us : List (ℕ × V)) (rest : List ℕ) → whole.encodes us rest
      → (n : ℕ) × (prefix more : List ℕ) × (rest ≡ prefix ++ more) × number.encodes n prefix
  unfolding until sequence coding
  begins [] rest h = (mark, rest, [], sym (append-nil rest), h)
  begins (u ∷ us) rest h =
      let e = h.first_is in (
        e.first_is.code,
        e.prefix,
        e.suffix ++ h.suffix,
        h.whole_is ∙ (ap (λ x. x ++ h.suffix) e.whole_is ∙ append_assoc e.prefix e.suffix h.suffix),
        e.first_is.code_is,
      )

  -- and behind a number that is not the mark with a value
  value_behind : (n : ℕ) → n ≢ mark → (us : List (ℕ × V)) (p rest r q : List ℕ) → number.encodes n p
      → whole.encodes us rest → p ++ r ≡ rest ++ q
      → (v : V) × (prefix more : List ℕ) × (r ≡ prefix ++ more) × (item.format f).encodes v prefix
  unfolding until sequence coding
  value_behind n other [] p rest r q h k e =
      absurd (other ((numbers.laws f).decodes n mark p rest r q h k e).0)
  value_behind n other (u ∷ us) p rest r q h k e =
      let x = k.first_is in
      let joined = e ∙ (ap (λ y. y ++ q) (k.whole_is ∙ (ap (λ y. y ++ k.suffix) x.whole_is
      ∙ append_assoc x.prefix x.suffix k.suffix)) ∙ append_assoc x.prefix (x.suffix ++ k.suffix) q) in
      let same = (numbers.laws f).decodes n x.first_is.code p x.prefix r ((x.suffix ++ k.suffix) ++ q) h
      x.first_is.code_is joined in
      (u.1, x.suffix, k.suffix ++ q, same.2 ∙ append_assoc x.suffix k.suffix q, x.second_is)

  -- a number that is not the mark, and a value, are an entry
  is_entry : (n : ℕ) (v : V) (s t : List ℕ) → n ≢ mark → number.encodes n s → (item.format f).encodes v t
      → entry.encodes (n, v) (s ++ t)
  unfolding sequence coding
  is_entry n v s t other h k = record {
    prefix = s;
    suffix = t;
    whole_is = refl;
    first_is = record {
      code = n;
      code_is = h;
      stands = Accepts-exact f.strict _ _ n n (refl, other);
    };
    second_is = k;
  }

  module _ {E : Type 0} {gives : Error → E → Type 0} {eof : E → Bool} {old mid new : ReaderState} (vs : List (ℕ × V))
    where
      -- a number was read
      pub number_more : {n : ℕ} → ReadSoFar (Each entry.encodes vs) old mid
          → Reads gives eof (λ n. n) number (Ok n) mid new → ReadSoFar (Numbered vs n) old new
      number_more so_far r = more_so_far so_far r (λ s t h k. Parts-joined s t h k)

      -- and the value behind it
      pub value_more : {A : Type 0} {seen : A → V} {x : A} {ws : List (ℕ × V)} (n : ℕ) → n ≢ mark
          → ReadSoFar (Numbered vs n) old mid → Reads gives eof seen (item.format f) (Ok x) mid new
          → ws ≡ vs ++ (n, seen x) ∷ [] → ReadSoFar (Each entry.encodes ws) old new
      value_more {seen = seen} {x = x} n other so_far r is =
          subst (λ us. ReadSoFar (Each entry.encodes us) old new) (sym is)
          (more_so_far so_far r (λ s t h k.
          subst (Each entry.encodes (vs ++ (n, seen x) ∷ []))
          (sym (append_assoc h.prefix h.suffix t) ∙ ap (λ y. y ++ t) (sym h.whole_is))
          (each_more entry.encodes vs (n, seen x) h.prefix (h.suffix ++ t) h.first_is
          (is_entry n (seen x) h.suffix t other h.second_is k))))

  module _ {E : Type 0} {gives : Error → E → Type 0} {eof : E → Bool} {B : Type 0} {seen' : B → List (ℕ × V)}
      {old : ReaderState} where
    -- what follows what was taken is refused, and so are all
    refused_later : {A U : Type 0} {M : Format U} {seen : A → U} {taken : List ℕ → Type 0} {e : E}
        {result : Result B E} {mid new : ReaderState} → (IsTrue M.asks.lending → IsTrue whole.asks.lending)
        → ((kind : ErrorKind) → M.names kind → whole.names kind)
        → ((ws : List (ℕ × V)) (s t r q : List ℕ) → taken s → whole.encodes ws t → s ++ r ≡ t ++ q
        → (u : U) × (prefix rest : List ℕ) × (r ≡ prefix ++ rest) × M.encodes u prefix)
        → ReadSoFar taken old mid → IsErrAnd result (λ x. x ≡ e)
        → Reads gives eof seen M (Err e) mid new → Reads gives eof seen' whole result old new
    unfolding until
    refused_later {M = M} {e = e} {mid = mid} {new = new} lends names next so_far passed r =
        let got = so_far.got in
        Reads-passed passed (record {
          kept = Kept-after so_far.kept r.kept;
          answer = part_refused new so_far.kept.fixed so_far.got.no_fault (λ _. refl) lends names
              (λ told because.
              let un = because (IsTold-after so_far.kept lends told) in
              record {
                no_prefix = λ ws prefix rest is sp.
                    let part = next ws got.prefix prefix mid.remaining rest got.prefix_is sp
                    (sym (got.taken told.tells) ∙ is) in
                    un.no_prefix part.0 part.1 part.2 part.3 part.4;
                too_short = λ ws more sp.
                    let all = old.remaining ++ more in
                    let joined = sym (append_assoc got.prefix mid.remaining more)
                    ∙ (ap (λ x. x ++ more) (sym (got.taken told.tells)) ∙ sym (append-nil all)) in
                    let part = next ws got.prefix all (mid.remaining ++ more) [] got.prefix_is sp joined in
                    elim (prefixes_nest mid.remaining more part.1 part.2 part.3) [
                      | inl h ↦ un.too_short part.0 h.0 (subst (M.encodes part.0) h.1 part.4)
                      | inr h ↦ absurd (un.no_prefix part.0 part.1 h.0 h.1 part.4)
                    ];
                malformed = λ bad. absurd bad;
                wrong_length = λ wrong. absurd wrong;
              })
              r.answer;
        })

    -- the next number is refused
    pub number_refused : (vs : List (ℕ × V)) {e : E} {result : Result B E} {mid new : ReaderState}
        → ReadSoFar (Each entry.encodes vs) old mid → IsErrAnd result (λ x. x ≡ e)
        → Reads gives eof (λ n. n) number (Err e) mid new → Reads gives eof seen' whole result old new
    unfolding until coding
    number_refused vs =
        refused_later (pair_composes {L = (not_mark numbers mark).format f} {M = item.format f}).asks_first.lending
        (λ kind h. inr h)
        (λ ws s t r q h k is.
        let x = behind vs ws s t r q h k is in
        let n = begins x.0 x.1 x.3 in
        (n.0, n.1, n.2 ++ q, x.2 ∙ (ap (λ y. y ++ q) n.3 ∙ append_assoc n.1 n.2 q), n.4))

    -- the value behind a number that is not the mark is refused
    pub value_refused : {A : Type 0} {seen : A → V} (vs : List (ℕ × V)) (n : ℕ) {e : E} {result : Result B E}
        {mid new : ReaderState} → n ≢ mark → ReadSoFar (Numbered vs n) old mid → IsErrAnd result (λ x. x ≡ e)
        → Reads gives eof seen (item.format f) (Err e) mid new → Reads gives eof seen' whole result old new
    unfolding until sequence coding
    value_refused vs n other =
        refused_later ((pair_composes {L = (not_mark numbers mark).format f} {M = item.format f}).asks_second n).lending
        (λ kind h. inl (inr (n, h)))
        (λ ws s t r q h k is.
        let x = behind vs ws h.prefix t (h.suffix ++ r) q h.first_is k
        (sym (append_assoc h.prefix h.suffix r) ∙ (ap (λ y. y ++ r) (sym h.whole_is) ∙ is)) in
        value_behind n other x.0 h.suffix x.1 r q h.second_is x.3 x.2)

    -- there is no room for an entry
    pub no_room : {taken : List ℕ → Type 0} (e : E) {result : Result B E} {new : ReaderState} → ReadSoFar taken old new
        → IsErrAnd result (λ x. x ≡ e) → gives (error_of kinds.OutOfMemory) e
        → Reads gives eof seen' whole result old new
    unfolding until
    no_room e so_far passed given = Reads-passed passed (record {
      kept = so_far.kept;
      answer = inl (inl (given, inl refl, so_far.got.no_fault));
    })

    -- the mark was read
    pub mark_read : {n : ℕ} {y : B} {new : ReaderState} → n ≡ mark → ReadSoFar (Numbered (seen' y) n) old new
        → Reads gives eof seen' whole (Ok y) old new
    unfolding until
    mark_read {y = y} is so_far =
        all_so_far so_far (λ s h. subst (whole.encodes (seen' y)) (sym h.whole_is)
        (until_joined entry.encodes (number.encodes mark) (seen' y) h.prefix h.suffix h.first_is
        (subst (λ m. number.encodes m h.suffix) is h.second_is)))
