-- Lists that end with a mark: entries, each a number that is not the mark and what stands behind it, and then the mark.
use Rattle.std.specs.Prelude.{◌≡◌, ◌≢◌, ℕ, ◌≤◌, List, [], ◌∷◌, ◌++◌, length, Bool, true, ◌⊎◌, refl, false}
use Rattle.std.proofs.Common.{sym, ◌∙◌, ap, ap₂, arith, inl, inr, subst}
use Rattle.std.proofs.lemmas.List.{append_assoc, length-append}
use Rattle.speedy_base.specs.declared.error.ErrorKind.TheVariants as kinds
use Rattle.speedy_base.specs.Mode.{Mode}
use Rattle.speedy_layout.specs.Codes.{coding, subset_codec, Accepts-exact_means}
use Rattle.speedy_layout.specs.Format.{Asks, Each, Format, Parts, Parts-joined}
use Rattle.speedy_layout.specs.Laws.{Laws, Codec, Decided, WritesToo}
use Rattle.speedy_layout.specs.Prefixed.{Numbers}
use Rattle.speedy_layout.specs.Sequences.{Parts-as, across, sequence}
use Rattle.speedy_layout.specs.Tuples.{pair_codec}

-- an encoding of each value, one after the other, and then one of the end
abbrev pub Until : {V : Type 0} → (V → List ℕ → Type 0) → (List ℕ → Type 0) → List V → List ℕ → Type 0
Until encodes ends [] bytes = ends bytes
Until encodes ends (v ∷ vs) bytes = Parts (encodes v) (Until encodes ends vs) bytes

-- values up to the number that ends them
unfoldable pub until : {V : Type 0} → Format V → Format ℕ → ℕ → Format (List V)
until F E mark = record {
  encodes = Until F.encodes (E.encodes mark);
  writes = Until F.writes (E.writes mark);
  names = λ kind. F.names kind ⊎ E.names kind;
  refuses_writing = λ kind. F.refuses_writing kind ⊎ E.refuses_writing kind;
  malformed = λ _. ⊥;
  wrong_length = λ _. ⊥;
  asks = record F.asks { memory = true };
}

-- values and the end are the values, and then the end
pub until_joined : {V : Type 0} (encodes : V → List ℕ → Type 0) (ends : List ℕ → Type 0) (vs : List V) (s t : List ℕ)
    → Each encodes vs s → ends t → Until encodes ends vs (s ++ t)
until_joined encodes ends [] s t h k = subst ends (ap (λ x. x ++ t) (sym h)) k
until_joined encodes ends (v ∷ vs) s t h k = record {
  prefix = h.prefix;
  suffix = h.suffix ++ t;
  whole_is = ap (λ x. x ++ t) h.whole_is ∙ append_assoc h.prefix h.suffix t;
  first_is = h.first_is;
  second_is = until_joined encodes ends vs h.suffix t h.second_is k;
}

pub until_parts : {V : Type 0} (encodes : V → List ℕ → Type 0) (ends : List ℕ → Type 0) (vs : List V) (b : List ℕ)
    → Until encodes ends vs b → Parts (Each encodes vs) ends b
until_parts encodes ends [] b h = record { prefix = []; suffix = b; whole_is = refl; first_is = refl; second_is = h }
until_parts encodes ends (v ∷ vs) b h =
    let more = until_parts encodes ends vs h.suffix h.second_is in
    record {
      prefix = h.prefix ++ more.prefix;
      suffix = more.suffix;
      whole_is = h.whole_is ∙ (ap (λ x. h.prefix ++ x) more.whole_is
          ∙ sym (append_assoc h.prefix more.prefix more.suffix));
      first_is = record {
        prefix = h.prefix;
        suffix = more.prefix;
        whole_is = refl;
        first_is = h.first_is;
        second_is = more.first_is;
      };
      second_is = more.second_is;
    }

-- what is so of each value, and of the end, in one way is so in another
pub until_as : {V : Type 0} {R S : V → List ℕ → Type 0} {P Q : List ℕ → Type 0}
    → ((v : V) (b : List ℕ) → R v b → S v b) → ((b : List ℕ) → P b → Q b)
    → (vs : List V) (b : List ℕ) → Until R P vs b → Until S Q vs b
until_as f g [] b h = g b h
until_as f g (v ∷ vs) b h = Parts-as (f v) (λ s k. until_as f g vs s k) h

module _ {V : Type 0} {strict : Bool} {n m : ℕ} {F : Format V} {E : Format ℕ} (laws : Laws strict n F)
    (ends : Laws strict m E) (mark : ℕ)
    (apart : (v : V) (s t r q : List ℕ) → F.encodes v s → E.encodes mark t → s ++ r ≡ t ++ q → ⊥) where
  decodes : (vs ws : List V) (s t r q : List ℕ) → Until F.encodes (E.encodes mark) vs s
      → Until F.encodes (E.encodes mark) ws t → s ++ r ≡ t ++ q → (vs ≡ ws) × (s ≡ t) × (r ≡ q)
  decodes [] [] s t r q h k e = let d = ends.decodes mark mark s t r q h k e in (refl, d.1, d.2)
  decodes [] (w ∷ ws) s t r q h k e =
      absurd (apart w k.prefix s (k.suffix ++ q) r k.first_is h
      (sym (append_assoc k.prefix k.suffix q) ∙ (ap (λ x. x ++ q) (sym k.whole_is) ∙ sym e)))
  decodes (v ∷ vs) [] s t r q h k e =
      absurd (apart v h.prefix t (h.suffix ++ r) q h.first_is k
      (sym (append_assoc h.prefix h.suffix r) ∙ (ap (λ x. x ++ r) (sym h.whole_is) ∙ e)))
  decodes (v ∷ vs) (w ∷ ws) s t r q h k e =
      let joined = across s t r q h.prefix h.suffix k.prefix k.suffix h.whole_is k.whole_is e in
      let first : (v ≡ w) × (h.prefix ≡ k.prefix) × (h.suffix ++ r ≡ k.suffix ++ q) =
      laws.decodes v w h.prefix k.prefix (h.suffix ++ r) (k.suffix ++ q) h.first_is k.first_is joined in
      let more : (vs ≡ ws) × (h.suffix ≡ k.suffix) × (r ≡ q) =
      decodes vs ws h.suffix k.suffix r q h.second_is k.second_is first.2 in (
        let a = first.0 in let b = more.0 in (cc),
        h.whole_is ∙ (let a = first.1 in let b = more.1 in (cc)) ∙ sym k.whole_is,
        more.2,
      )

  tells : (vs ws : List V) (s t : List ℕ) → Until F.encodes (E.encodes mark) vs s
      → Until F.encodes (E.encodes mark) ws t → Decided (vs ≡ ws)
  tells [] [] s t h k = inl refl
  tells [] (w ∷ ws) s t h k = inr (λ e. absurd (cc))
  tells (v ∷ vs) [] s t h k = inr (λ e. absurd (cc))
  tells (v ∷ vs) (w ∷ ws) s t h k =
      elim (laws.tells v w h.prefix k.prefix h.first_is k.first_is) [
        | inl same ↦ elim (tells vs ws h.suffix k.suffix h.second_is k.second_is) [
          | inl more ↦ inl (ap₂ ◌∷◌ same more)
          | inr other ↦ inr (λ e. other (let tails : vs ≡ ws = cc in tails))
        ]
        | inr other ↦ inr (λ e. other (let heads : v ≡ w = cc in heads))
      ]

  shortest : (vs : List V) (b c : List ℕ) → Until F.writes (E.writes mark) vs b
      → Until F.encodes (E.encodes mark) vs c → length b ≤ length c
  shortest [] b c h k = ends.shortest mark b c h k
  shortest (v ∷ vs) b c h k =
      let first = laws.shortest v h.prefix k.prefix h.first_is k.first_is in
      let more = shortest vs h.suffix k.suffix h.second_is k.second_is in
      let l = ap length h.whole_is ∙ length-append h.prefix h.suffix in
      let o = ap length k.whole_is ∙ length-append k.prefix k.suffix in
      omega arith

  least_size : (vs : List V) (b : List ℕ) → Until F.encodes (E.encodes mark) vs b → m ≤ length b
  least_size [] b h = ends.least_size mark b h
  least_size (v ∷ vs) b h =
      let more = least_size vs h.suffix h.second_is in
      let l = ap length h.whole_is ∙ length-append h.prefix h.suffix in
      omega arith

  has_written : (vs : List V) (b : List ℕ) → Until F.encodes (E.encodes mark) vs b
      → (w : List ℕ) × Until F.writes (E.writes mark) vs w
  has_written [] b h = ends.has_written mark b h
  has_written (v ∷ vs) b h =
      let first = laws.has_written v h.prefix h.first_is in
      let more = has_written vs h.suffix h.second_is in
      (first.0 ++ more.0, Parts-joined first.0 more.0 first.1 more.1)

  one_written : F.asks.hashed ≡ false → E.asks.hashed ≡ false → (vs : List V) (b c : List ℕ)
      → Until F.writes (E.writes mark) vs b → Until F.writes (E.writes mark) vs c → b ≡ c
  one_written unhashed none [] b c h k = ends.one_written none mark b c h k
  one_written unhashed none (v ∷ vs) b c h k =
      let first = laws.one_written unhashed v h.prefix k.prefix h.first_is k.first_is in
      let more = one_written unhashed none vs h.suffix k.suffix h.second_is k.second_is in
      h.whole_is ∙ (ap₂ ◌++◌ first more ∙ sym k.whole_is)

  pub until_laws : E.asks.hashed ≡ false → Laws strict m (until F E mark)
  unfolding until
  until_laws none = record {
    decodes = decodes;
    tells = tells;
    written_encodes = until_as laws.written_encodes (ends.written_encodes mark);
    written_alone = λ s. until_as (laws.written_alone s) (ends.written_alone s mark);
    shortest = shortest;
    least_size = least_size;
    has_written = has_written;
    one_written = λ unhashed. one_written unhashed none;
    malformed_undecodable = λ _ _ _ h _. h;
    wrong_length_malformed = λ _ h. h;
    names_own = λ kind named. elim named [ inl h ↦ laws.names_own kind h | inr h ↦ ends.names_own kind h ];
    refuses_own = λ kind refused. elim refused [ inl h ↦ laws.refuses_own kind h | inr h ↦ ends.refuses_own kind h ];
  }

pub until_written : {V : Type 0} {F G : Format V} {D E : Format ℕ} (mark : ℕ) → WritesToo F G → WritesToo D E
    → WritesToo (until F D mark) (until G E mark)
unfolding until
until_written mark first second = record { too = until_as first.too (second.too mark) }

-- a number that is not the mark
abbrev pub not_mark : Codec ℕ → ℕ → Codec ℕ
not_mark numbers mark = subset_codec (λ n. n ≢ mark) kinds.OutOfRangeLength tt numbers

-- and a value behind it
abbrev pub entry_codec : {V : Type 0} → Codec ℕ → ℕ → Codec V → Codec (ℕ × V)
entry_codec numbers mark item = pair_codec (not_mark numbers mark) item

-- no entry begins as the mark does
pub entry_apart : {V : Type 0} (f : Mode) (numbers : Codec ℕ) (mark : ℕ) (item : Codec V) (v : ℕ × V)
    (s t r q : List ℕ) → ((entry_codec numbers mark item).format f).encodes v s → (numbers.format f).encodes mark t
    → s ++ r ≡ t ++ q → ⊥
unfolding sequence coding
entry_apart f numbers mark item v s t r q h k e =
    let is = Accepts-exact_means f.strict _ _ _ _ h.first_is.stands in
    let whole : h.prefix ++ (h.suffix ++ r) ≡ t ++ q =
    sym (append_assoc h.prefix h.suffix r) ∙ (ap (λ x. x ++ r) (sym h.whole_is) ∙ e) in
    let same = (numbers.laws f).decodes h.first_is.code mark h.prefix t (h.suffix ++ r) q h.first_is.code_is k whole in
    is.1 (sym is.0 ∙ same.0)

-- entries up to the mark
abbrev pub until_codec : {V : Type 0} → Numbers → ℕ → Codec V → Codec (List (ℕ × V))
until_codec numbers mark item = record {
  least = numbers.codec.least;
  format = λ f. until ((entry_codec numbers.codec mark item).format f) (numbers.codec.format f) mark;
  laws = λ f. until_laws ((entry_codec numbers.codec mark item).laws f) (numbers.codec.laws f) mark
      (entry_apart f numbers.codec mark item) (ap (λ (asks : Asks). asks.hashed) (numbers.none_asked f));
  same_written = λ f strict. until_written mark ((entry_codec numbers.codec mark item).same_written f strict)
      (numbers.codec.same_written f strict);
}
