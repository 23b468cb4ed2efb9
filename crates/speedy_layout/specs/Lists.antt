-- Lists: n items one after the other, and counted lists.
use Rattle.std.specs.Prelude.{◌≡◌, ℕ, zero, suc, ◌+◌, ◌*◌, ◌≤◌, List, [], ◌∷◌, ◌++◌, length, Bool, true, false, ◌⊎◌}
use Rattle.std.specs.Prelude.{refl}
use Rattle.std.proofs.Common.{sym, ◌∙◌, ap, ap₂, subst, inl, inr, arith}
use Rattle.std.proofs.lemmas.List.{append_assoc, append-nil, length-append}
use Rattle.speedy_base.specs.Mode.{Mode}
use Rattle.speedy_layout.specs.Format.{Format, Each, Parts-joined}
use Rattle.speedy_layout.specs.Laws.{Laws, Codec, Laws-less, saturated_size, saturated_laws, Decided}
use Rattle.speedy_layout.specs.Laws.{WritesToo}
use Rattle.speedy_layout.specs.Numbers.{unsigned_number, unsigned_number_laws, unsigned_written}
use Rattle.speedy_layout.specs.Owned.{owned_content, owned_content_laws, owned_written}
use Rattle.speedy_layout.specs.Sequences.{AsksAtMost, asks_same, counted_parts, sequence, sequence_laws, across}
use Rattle.speedy_layout.specs.Sequences.{Parts-as, sequence_written}

-- n items, one after the other
unfoldable pub repeat : {V : Type 0} → ℕ → Format V → Format (List V)
repeat n F = record {
  encodes = λ vs bytes. (length vs ≡ n) × Each F.encodes vs bytes;
  writes = λ vs bytes. (length vs ≡ n) × Each F.writes vs bytes;
  names = F.names;
  refuses_writing = F.refuses_writing;
  malformed = λ _. ⊥;
  wrong_length = λ _. ⊥;
  asks = F.asks;
}

-- n items that are read into a vector
unfoldable pub vector : {V : Type 0} → ℕ → Format V → Format (List V)
vector n F = owned_content (repeat n F)

-- a count, which is encoded as a format of numbers says, and then the items
abbrev pub prefixed_list : {V : Type 0} → Format ℕ → Format V → Format (List V)
prefixed_list count F = sequence counted_parts count (record F.asks { memory = true }) (λ n. vector n F)

-- README, `{length: u32, values: [T]}`: the number of items in four digits, then the items
unfoldable pub list : {V : Type 0} → Mode → Format V → Format (List V)
list mode F = prefixed_list (unsigned_number 4 mode) F

-- items after others
pub each_append : {V : Type 0} (encodes : V → List ℕ → Type 0) (vs ws : List V) (s t : List ℕ) → Each encodes vs s
    → Each encodes ws t → Each encodes (vs ++ ws) (s ++ t)
each_append encodes [] ws s t h k = subst (λ b. Each encodes ws b) (sym (ap (λ x. x ++ t) h)) k
each_append encodes (v ∷ vs) ws s t h k = record {
  prefix = h.prefix;
  suffix = h.suffix ++ t;
  whole_is = ap (λ x. x ++ t) h.whole_is ∙ append_assoc h.prefix h.suffix t;
  first_is = h.first_is;
  second_is = each_append encodes vs ws h.suffix t h.second_is k;
}

-- and one item
pub each_more : {V : Type 0} (encodes : V → List ℕ → Type 0) (vs : List V) (v : V) (s t : List ℕ) → Each encodes vs s
    → encodes v t → Each encodes (vs ++ v ∷ []) (s ++ t)
each_more encodes vs v s t h k = each_append encodes vs (v ∷ []) s t h (record {
  prefix = t;
  suffix = [];
  whole_is = sym (append-nil t);
  first_is = k;
  second_is = refl;
})

-- what is so of each item in one way is so in another
pub each_as : {V : Type 0} {R S : V → List ℕ → Type 0} → ((v : V) (b : List ℕ) → R v b → S v b)
    → (vs : List V) (b : List ℕ) → Each R vs b → Each S vs b
each_as f [] b h = h
each_as f (v ∷ vs) b h = Parts-as (f v) (λ s k. each_as f vs s k) h

-- of two lists that make none, both are
pub both_none : (s t : List ℕ) → s ++ t ≡ [] → (s ≡ []) × (t ≡ [])
both_none [] t e = (refl, e)
both_none (b ∷ s) t e = absurd (cc)

-- there are bytes or none
none_or_some : (b : List ℕ) → (b ≡ []) ⊎ (b ≡ [] → ⊥)
none_or_some [] = inl refl
none_or_some (x ∷ b) = inr (λ e. absurd (cc))

module _ {V : Type 0} {strict : Bool} {least : ℕ} {F : Format V} (laws : Laws strict least F) where
  -- lists of one length decode item by item
  pub each_decodes : (vs ws : List V) (s t r q : List ℕ) → length vs ≡ length ws → Each F.encodes vs s
      → Each F.encodes ws t → s ++ r ≡ t ++ q
      → (vs ≡ ws) × (s ≡ t) × (r ≡ q)
  each_decodes [] [] s t r q l h k e = (refl, h ∙ sym k, ap (λ x. x ++ r) (sym h) ∙ (e ∙ ap (λ x. x ++ q) k))
  each_decodes [] (w ∷ ws) s t r q l h k e = absurd (let z : zero ≡ suc (length ws) = l in (cc))
  each_decodes (v ∷ vs) [] s t r q l h k e = absurd (let z : suc (length vs) ≡ zero = l in (cc))
  each_decodes (v ∷ vs) (w ∷ ws) s t r q l h k e =
      let joined = across s t r q h.prefix h.suffix k.prefix k.suffix h.whole_is k.whole_is e in
      let first : (v ≡ w) × (h.prefix ≡ k.prefix) × (h.suffix ++ r ≡ k.suffix ++ q) =
      laws.decodes v w h.prefix k.prefix (h.suffix ++ r) (k.suffix ++ q) h.first_is k.first_is joined in
      let tails : length vs ≡ length ws = omega (arith, l) in
      let more : (vs ≡ ws) × (h.suffix ≡ k.suffix) × (r ≡ q) =
      each_decodes vs ws h.suffix k.suffix r q tails h.second_is k.second_is first.2 in (
        let a = first.0 in let b = more.0 in (cc),
        h.whole_is ∙ (let a = first.1 in let b = more.1 in (cc)) ∙ sym k.whole_is,
        more.2,
      )

  -- where an item takes bytes, each does
  none_empty : (v : V) (b : List ℕ) → F.encodes v b → (b ≡ [] → ⊥) → (vs : List V) → Each F.encodes vs [] → vs ≡ []
  none_empty v b h some [] k = refl
  none_empty v b h some (w ∷ ws) k =
      let none = (both_none k.prefix k.suffix (sym k.whole_is)).0 in
      let same =
      laws.decodes w v k.prefix b b [] k.first_is h (ap (λ s. s ++ b) none ∙ sym (append-nil b)) in
      absurd (some (sym same.1 ∙ none))

  -- lists of the same bytes, of which there are some, have as many items
  pub each_ends : (vs ws : List V) (b : List ℕ) → (b ≡ [] → ⊥) → Each F.encodes vs b → Each F.encodes ws b
      → length vs ≡ length ws
  each_ends [] ws b some h k = absurd (some h)
  each_ends (v ∷ vs) [] b some h k = absurd (some k)
  each_ends (v ∷ vs) (w ∷ ws) b some h k =
      let first = laws.decodes v w h.prefix k.prefix h.suffix k.suffix h.first_is k.first_is
      (sym h.whole_is ∙ k.whole_is) in
      let tail = subst (Each F.encodes ws) (sym first.2) k.second_is in
      elim (none_or_some h.suffix) [
        | inl none ↦
            let own : h.prefix ≡ [] → ⊥ = λ e. some (h.whole_is ∙ (ap (λ s. s ++ h.suffix) e ∙ none)) in
            let left = none_empty v h.prefix h.first_is own vs (subst (Each F.encodes vs) none h.second_is) in
            let right = none_empty v h.prefix h.first_is own ws (subst (Each F.encodes ws) none tail) in
            ap (λ (x : List V). suc (length x)) (left ∙ sym right)
        | inr more ↦ ap suc (each_ends vs ws h.suffix more h.second_is tail)
      ]

  -- and whether they are the same is decided
  pub each_tells : (vs ws : List V) (s t : List ℕ) → Each F.encodes vs s → Each F.encodes ws t → Decided (vs ≡ ws)
  each_tells [] [] s t h k = inl refl
  each_tells [] (w ∷ ws) s t h k = inr (λ e. absurd (cc))
  each_tells (v ∷ vs) [] s t h k = inr (λ e. absurd (cc))
  each_tells (v ∷ vs) (w ∷ ws) s t h k =
      elim (laws.tells v w h.prefix k.prefix h.first_is k.first_is) [
        | inl first ↦
            elim (each_tells vs ws h.suffix k.suffix h.second_is k.second_is) [
              | inl more ↦ inl (ap₂ ◌∷◌ first more)
              | inr n ↦ inr (λ e. n (let tails : vs ≡ ws = cc in tails))
            ]
        | inr n ↦ inr (λ e. n (let heads : v ≡ w = cc in heads))
      ]

  -- no encoding of the items is shorter than a written one
  pub each_shortest : (vs : List V) (b c : List ℕ) → Each F.writes vs b → Each F.encodes vs c → length b ≤ length c
  each_shortest [] b c h k = let l = ap length (h ∙ sym k) in omega arith
  each_shortest (v ∷ vs) b c h k =
      let first = laws.shortest v h.prefix k.prefix h.first_is k.first_is in
      let more = each_shortest vs h.suffix k.suffix h.second_is k.second_is in
      let l = ap length h.whole_is ∙ length-append h.prefix h.suffix in
      let m = ap length k.whole_is ∙ length-append k.prefix k.suffix in
      omega arith

  -- n items have at least n times the least size
  pub each_size : (vs : List V) (b : List ℕ) → Each F.encodes vs b → length vs * least ≤ length b
  each_size [] b h = omega arith
  each_size (v ∷ vs) b h =
      let first = laws.least_size v h.prefix h.first_is in
      let more = each_size vs h.suffix h.second_is in
      let l = ap length h.whole_is ∙ length-append h.prefix h.suffix in
      omega arith

  -- items that have encodings have written ones
  pub each_has_written : (vs : List V) (b : List ℕ) → Each F.encodes vs b → (w : List ℕ) × Each F.writes vs w
  each_has_written [] b h = ([], refl)
  each_has_written (v ∷ vs) b h =
      let first = laws.has_written v h.prefix h.first_is in
      let more = each_has_written vs h.suffix h.second_is in (
        first.0 ++ more.0,
        Parts-joined first.0 more.0 first.1 more.1,
      )

  -- just one, where no item is hashed
  pub each_one_written : F.asks.hashed ≡ false → (vs : List V) (b c : List ℕ) → Each F.writes vs b
      → Each F.writes vs c → b ≡ c
  each_one_written u [] b c h k = h ∙ sym k
  each_one_written u (v ∷ vs) b c h k =
      let first = laws.one_written u v h.prefix k.prefix h.first_is k.first_is in
      let more = each_one_written u vs h.suffix k.suffix h.second_is k.second_is in
      h.whole_is ∙ (cc) ∙ sym k.whole_is

  pub repeat_laws : (n : ℕ) → Laws strict (n * least) (repeat n F)
  unfolding repeat
  repeat_laws n = record {
    decodes = λ v w s t r q h k e. each_decodes v w s t r q (h.0 ∙ sym k.0) h.1 k.1 e;
    tells = λ v w s t h k. each_tells v w s t h.1 k.1;
    written_encodes = λ v b h. (h.0, each_as laws.written_encodes v b h.1);
    written_alone = λ s v b h. (h.0, each_as (laws.written_alone s) v b h.1);
    shortest = λ v b c h k. each_shortest v b c h.1 k.1;
    least_size = λ v b h. subst (λ m. m * least ≤ length b) h.0 (each_size v b h.1);
    has_written = λ v b h. let w = each_has_written v b h.1 in (w.0, (h.0, w.1));
    one_written = λ u v b c h k. each_one_written u v b c h.1 k.1;
    malformed_undecodable = λ _ _ _ h _. h;
    wrong_length_malformed = λ _ h. h;
    names_own = laws.names_own;
    refuses_own = laws.refuses_own;
  }

  pub vector_laws : (n : ℕ) → Laws strict (n * least) (vector n F)
  unfolding vector
  vector_laws n = owned_content_laws (repeat_laws n)

pub vector_asks : {V : Type 0} (F : Format V) (n : ℕ) → AsksAtMost (vector n F).asks (record F.asks { memory = true })
unfolding vector owned_content repeat
vector_asks F n = asks_same

pub prefixed_list_laws : {V : Type 0} {strict : Bool} {width least : ℕ} {count : Format ℕ} {F : Format V}
    → Laws strict width count → Laws strict least F → Laws strict width (prefixed_list count F)
prefixed_list_laws {V = V} {width = width} {F = F} count laws =
    Laws-less {n = width + 0} (omega arith)
    (sequence_laws {n = width} {m = 0} count (λ n. Laws-less (omega arith) (vector_laws laws n)) (vector_asks F)
    (λ v w e. ap (λ (p : ℕ × List V). p.1) e))

pub list_laws : {V : Type 0} {least : ℕ} {F : Format V} (mode : Mode) → Laws mode.strict least F
    → Laws mode.strict 4 (list mode F)
unfolding list
list_laws mode laws = prefixed_list_laws (unsigned_number_laws 4 mode) laws

module _ {V : Type 0} {F G : Format V} (same : WritesToo F G) where
  -- lists are written as their items are
  pub repeat_written : (n : ℕ) → WritesToo (repeat n F) (repeat n G)
  unfolding repeat
  repeat_written n = record { too = λ vs b h. (h.0, each_as same.too vs b h.1) }

  pub vector_written : (n : ℕ) → WritesToo (vector n F) (vector n G)
  unfolding vector
  vector_written n = owned_written (repeat_written n)

  pub prefixed_list_written : {count number : Format ℕ} → WritesToo count number
      → WritesToo (prefixed_list count F) (prefixed_list number G)
  prefixed_list_written counts = sequence_written counted_parts _ _ counts vector_written

  pub list_written : (f : Mode) (strict : Bool) → WritesToo (list f F) (list (record f { strict = strict }) G)
  unfolding list
  list_written f strict = prefixed_list_written (unsigned_written 4 f strict)

abbrev pub vector_codec : {V : Type 0} → ℕ → Codec V → Codec (List V)
vector_codec n item = record {
  least = saturated_size (n * item.least);
  format = λ f. vector n (item.format f);
  laws = λ f. saturated_laws (vector_laws (item.laws f) n);
  same_written = λ f strict. vector_written (item.same_written f strict) n;
}

abbrev pub prefixed_list_codec : {V : Type 0} → Codec ℕ → Codec V → Codec (List V)
prefixed_list_codec count item = record {
  least = count.least;
  format = λ f. prefixed_list (count.format f) (item.format f);
  laws = λ f. prefixed_list_laws (count.laws f) (item.laws f);
  same_written = λ f strict. prefixed_list_written (item.same_written f strict) (count.same_written f strict);
}

abbrev pub list_codec : {V : Type 0} → Codec V → Codec (List V)
list_codec item = record {
  least = 4;
  format = λ f. list f (item.format f);
  laws = λ f. list_laws f (item.laws f);
  same_written = λ f strict. list_written (item.same_written f strict) f strict;
}

-- n items are encoded
pub vector_length : {V : Type 0} (n : ℕ) (F : Format V) (vs : List V) (bytes : List ℕ) → (vector n F).encodes vs bytes
    → length vs ≡ n
unfolding vector owned_content repeat
vector_length n F vs bytes h = h.0

-- and as many, where the bytes end with them and there are some
pub vector_ends : {V : Type 0} {strict : Bool} {least : ℕ} {F : Format V} → Laws strict least F → (n m : ℕ)
    (vs ws : List V) (bytes : List ℕ) → (vector n F).encodes vs bytes → (vector m F).encodes ws bytes
    → (bytes ≡ [] → ⊥) → n ≡ m
unfolding vector owned_content repeat
vector_ends laws n m vs ws bytes h k some = sym h.0 ∙ (each_ends laws vs ws bytes some h.1 k.1 ∙ k.0)
