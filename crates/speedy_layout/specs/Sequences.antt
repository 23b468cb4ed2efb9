-- One part after another, where the second may depend on what the first is.
use Rattle.std.specs.Prelude.{◌≡◌, ℕ, ◌+◌, List, [], ◌++◌, length, Bool, true, false, IsTrue, ◌||◌, ◌⊎◌, refl}
use Rattle.std.proofs.Common.{sym, ◌∙◌, ap, subst, arith, inl, inr}
use Rattle.std.proofs.lemmas.List.{append_assoc, length-append}
use Rattle.speedy_layout.specs.Format.{Asks, asks_nothing, either_asks, Format, Parts, Parts-joined}
use Rattle.speedy_layout.specs.Laws.{Laws, WritesToo}

-- what is asked no more than that
pub record AsksAtMost (few many : Asks) : Type 0 where
  pub lending : IsTrue few.lending → IsTrue many.lending
  pub hashed : IsTrue few.hashed → IsTrue many.hashed
  pub memory : IsTrue few.memory → IsTrue many.memory

-- a value that is split into two parts: an encoding of the first, then one of the second in the format that the first
-- chooses
unfoldable pub sequence : {U V : Type 0} {W : U → Type 0} → (V → (u : U) × W u) → Format U → Asks
    → ((u : U) → Format (W u)) → Format V
sequence {U = U} split L asks M = record {
  encodes = λ v. Parts (L.encodes (split v).0) ((M (split v).0).encodes (split v).1);
  writes = λ v. Parts (L.writes (split v).0) ((M (split v).0).writes (split v).1);
  names = λ kind. L.names kind ⊎ ((u : U) × (M u).names kind);
  refuses_writing = λ kind. L.refuses_writing kind ⊎ ((u : U) × (M u).refuses_writing kind);
  malformed = λ bytes. L.malformed bytes ⊎ ((u : U) × Parts (L.encodes u) (M u).malformed bytes);
  wrong_length = λ bytes. L.wrong_length bytes ⊎ ((u : U) × Parts (L.encodes u) (M u).wrong_length bytes);
  asks = either_asks L.asks asks;
}

or_left : (a b : Bool) → IsTrue a → IsTrue (a || b)
or_left true b h = refl
or_left false b h = absurd (cc)

or_right : (a b : Bool) → IsTrue b → IsTrue (a || b)
or_right true b h = refl
or_right false b h = h

pub asks_same : {a : Asks} → AsksAtMost a a
asks_same = record { lending = λ t. t; hashed = λ t. t; memory = λ t. t }

pub asks_nothing_more : {a : Asks} → AsksAtMost asks_nothing a
asks_nothing_more = record { lending = λ t. absurd (cc); hashed = λ t. absurd (cc); memory = λ t. absurd (cc) }

pub asks_left : (a b : Asks) → AsksAtMost a (either_asks a b)
asks_left a b = record {
  lending = or_left a.lending b.lending;
  hashed = or_left a.hashed b.hashed;
  memory = or_left a.memory b.memory;
}

pub asks_right : (a b : Asks) → AsksAtMost b (either_asks a b)
asks_right a b = record {
  lending = or_right a.lending b.lending;
  hashed = or_right a.hashed b.hashed;
  memory = or_right a.memory b.memory;
}

pub asks_memory : {a : Asks} → AsksAtMost a (record a { memory = true })
asks_memory = record { lending = λ t. t; hashed = λ t. t; memory = λ _. refl }

pub asks_hashed : {a : Asks} → AsksAtMost a (record a { hashed = true })
asks_hashed = record { lending = λ t. t; hashed = λ _. refl; memory = λ t. t }

pub asks_after : {a b c : Asks} → AsksAtMost a b → AsksAtMost b c → AsksAtMost a c
asks_after h k = record {
  lending = λ t. k.lending (h.lending t);
  hashed = λ t. k.hashed (h.hashed t);
  memory = λ t. k.memory (h.memory t);
}

pub neither : (a b : Bool) → (a || b) ≡ false → (a ≡ false) × (b ≡ false)
neither true b h = absurd (cc)
neither false b h = (refl, h)

pub not_asked : (a b : Bool) → (IsTrue a → IsTrue b) → b ≡ false → a ≡ false
not_asked true b f h = absurd (let t = f refl in (cc))
not_asked false b f h = refl

-- a list, as its length and its items
abbrev pub counted_parts : {V : Type 0} → List V → ℕ × List V
counted_parts vs = (length vs, vs)

-- which are those of a list of n items
pub so_many : {V : Type 0} (n : ℕ) (vs : List V) → length vs ≡ n → counted_parts vs ≡ (n, vs)
so_many {V = V} n vs h = ap (λ (m : ℕ). let whole : ℕ × List V = (m, vs) in whole) h

-- two lists of two parts, each followed by more, joined the other way round
pub across : (s t r q a b c d : List ℕ) → s ≡ a ++ b → t ≡ c ++ d → s ++ r ≡ t ++ q → a ++ (b ++ r) ≡ c ++ (d ++ q)
across s t r q a b c d h k e =
    sym (append_assoc a b r) ∙ (ap (λ x. x ++ r) (sym h) ∙ (e ∙ (ap (λ x. x ++ q) k ∙ append_assoc c d q)))

-- two parts, each of them in other words
pub Parts-as : {P R Q S : List ℕ → Type 0} {b : List ℕ} → ((s : List ℕ) → P s → R s) → ((s : List ℕ) → Q s → S s)
    → Parts P Q b → Parts R S b
Parts-as f g h = record {
  prefix = h.prefix;
  suffix = h.suffix;
  whole_is = h.whole_is;
  first_is = f h.prefix h.first_is;
  second_is = g h.suffix h.second_is;
}

-- two parts are written as each of them is
pub sequence_written : {U V : Type 0} {W : U → Type 0} (split : V → (u : U) × W u) (asks more : Asks) {L K : Format U}
    {M N : (u : U) → Format (W u)} → WritesToo L K → ((u : U) → WritesToo (M u) (N u))
    → WritesToo (sequence split L asks M) (sequence split K more N)
unfolding sequence
sequence_written split asks more first second = record {
  too = λ v b h. Parts-as (first.too (split v).0) ((second (split v).0).too (split v).1) h;
}

-- once the first parts are the same, the second parts decode
second_decodes : {U : Type 0} {W : U → Type 0} (M : (u : U) → Format (W u)) (strict : Bool) (m : ℕ)
    → ((u : U) → Laws strict m (M u)) → (s t r q : List ℕ) (p : (u : U) × W u) → (M p.0).encodes p.1 s → s ++ r ≡ t ++ q
    → (u : U) → p.0 ≡ u → (w : W u) → (M u).encodes w t
    → let whole : (u : U) × W u = (u, w) in (p ≡ whole) × (s ≡ t) × (r ≡ q)
second_decodes {U = U} {W = W} M strict m more s t r q p h e u same =
    subst
    (λ (u : U). (w : W u) → (M u).encodes w t → let whole : (u : U) × W u = (u, w) in (p ≡ whole) × (s ≡ t) × (r ≡ q))
    same
    (λ w k. let d = (more p.0).decodes p.1 w s t r q h k e in
    (ap (λ (x : W p.0). let whole : (u : U) × W u = (p.0, x) in whole) d.0, d.1, d.2))

-- once the first parts are the same, it is decided whether the second parts are
second_tells : {U : Type 0} {W : U → Type 0} (M : (u : U) → Format (W u)) (strict : Bool) (m : ℕ)
    → ((u : U) → Laws strict m (M u)) → (s : List ℕ) (p : (u : U) × W u) → (M p.0).encodes p.1 s
    → (u : U) → p.0 ≡ u → (w : W u) (t : List ℕ) → (M u).encodes w t
    → let whole : (u : U) × W u = (u, w) in (p ≡ whole) ⊎ ((b : List ℕ) → (M p.0).encodes p.1 b → (M u).encodes w b → ⊥)
second_tells {U = U} {W = W} M strict m more s p h u same =
    subst (λ (u : U). (w : W u) (t : List ℕ) → (M u).encodes w t → let whole : (u : U) × W u = (u, w) in
    (p ≡ whole) ⊎ ((b : List ℕ) → (M p.0).encodes p.1 b → (M u).encodes w b → ⊥)) same
    (λ w t k.
    elim ((more p.0).tells p.1 w s t h k) [
      | inl e ↦ inl (ap (λ (x : W p.0). let whole : (u : U) × W u = (p.0, x) in whole) e)
      | inr n ↦ inr (λ b g l. n (((more p.0).decodes p.1 w b b [] [] g l refl).0))
    ])

module _ {U V : Type 0} {W : U → Type 0} {split : V → (u : U) × W u} {L : Format U} {asks : Asks}
    {M : (u : U) → Format (W u)} {strict : Bool} {n m : ℕ} where
  -- the laws of two parts, one after the other
  pub sequence_laws : Laws strict n L → ((u : U) → Laws strict m (M u)) → ((u : U) → AsksAtMost (M u).asks asks)
      → ((v w : V) → split v ≡ split w → v ≡ w) → Laws strict (n + m) (sequence split L asks M)
  unfolding sequence
  sequence_laws laws more within injective = record {
    decodes = λ v w s t r q h k e.
        let joined = across s t r q h.prefix h.suffix k.prefix k.suffix h.whole_is k.whole_is e in
        let first =
        laws.decodes (split v).0 (split w).0 h.prefix k.prefix (h.suffix ++ r) (k.suffix ++ q) h.first_is k.first_is
        joined
        in
        let second = second_decodes M strict m more h.suffix k.suffix r q (split v) h.second_is first.2 (split w).0
        first.0
        (split w).1 k.second_is in
        (injective v w second.0, h.whole_is ∙ (let a = first.1 in let b = second.1 in (cc)) ∙ sym k.whole_is, second.2);
    tells = λ v w s t h k.
        elim (laws.tells (split v).0 (split w).0 h.prefix k.prefix h.first_is k.first_is) [
          | inl same ↦
              elim (second_tells M strict m more h.suffix (split v) h.second_is (split w).0 same (split w).1 k.suffix
              k.second_is) [
                | inl e ↦ inl (injective v w e)
                | inr n ↦ inr (λ e. apart v w s n h
                    (subst (λ (x : V). Parts (L.encodes (split x).0) ((M (split x).0).encodes (split x).1) s) e h))
              ]
          | inr n ↦ inr (λ e. n (ap (λ (x : V). (split x).0) e))
        ];
    written_encodes = λ v b h.
        Parts-as (laws.written_encodes (split v).0) ((more (split v).0).written_encodes (split v).1) h;
    written_alone = λ s v b h.
        Parts-as (laws.written_alone s (split v).0) ((more (split v).0).written_alone s (split v).1) h;
    shortest = λ v b c h k.
        let first = laws.shortest (split v).0 h.prefix k.prefix h.first_is k.first_is in
        let second = (more (split v).0).shortest (split v).1 h.suffix k.suffix h.second_is k.second_is in
        let l = ap length h.whole_is ∙ length-append h.prefix h.suffix in
        let o = ap length k.whole_is ∙ length-append k.prefix k.suffix in
        omega arith;
    least_size = λ v b h.
        let first = laws.least_size (split v).0 h.prefix h.first_is in
        let second = (more (split v).0).least_size (split v).1 h.suffix h.second_is in
        let l = ap length h.whole_is ∙ length-append h.prefix h.suffix in
        omega arith;
    has_written = λ v b h.
        let first = laws.has_written (split v).0 h.prefix h.first_is in
        let second = (more (split v).0).has_written (split v).1 h.suffix h.second_is in (
          first.0 ++ second.0,
          Parts-joined first.0 second.0 first.1 second.1,
        );
    one_written = λ u v b c h k.
        let no = neither L.asks.hashed asks.hashed u in
        let first = laws.one_written no.0 (split v).0 h.prefix k.prefix h.first_is k.first_is in
        let second = (more (split v).0).one_written
        (not_asked (M (split v).0).asks.hashed asks.hashed (within (split v).0).hashed no.1) (split v).1 h.suffix
        k.suffix
        h.second_is k.second_is in
        h.whole_is ∙ (cc) ∙ sym k.whole_is;
    malformed_undecodable = λ v prefix rest bad k.
        let joined : prefix ++ rest ≡ k.prefix ++ (k.suffix ++ rest) =
        ap (λ x. x ++ rest) k.whole_is ∙ append_assoc k.prefix k.suffix rest in
        elim bad [
          | inl h ↦
              laws.malformed_undecodable (split v).0 k.prefix (k.suffix ++ rest) (subst L.malformed joined h) k.first_is
          | inr h ↦
              let first = laws.decodes h.0 (split v).0 h.1.prefix k.prefix h.1.suffix (k.suffix ++ rest) h.1.first_is
              k.first_is (sym h.1.whole_is ∙ joined) in
              (more (split v).0).malformed_undecodable (split v).1 k.suffix rest
              (subst (λ (x : List ℕ). (M (split v).0).malformed x) first.2
              (subst (λ (u : U). (M u).malformed h.1.suffix) first.0 h.1.second_is)) k.second_is
        ];
    wrong_length_malformed = λ b bad.
        elim bad [
          | inl h ↦ inl (laws.wrong_length_malformed b h)
          | inr h ↦ inr (h.0, Parts-as (λ s k. k) (more h.0).wrong_length_malformed h.1)
        ];
    names_own = λ kind named.
        elim named [
          | inl h ↦ laws.names_own kind h
          | inr h ↦ (more h.0).names_own kind h.1
        ];
    refuses_own = λ kind refused.
        elim refused [
          | inl h ↦ laws.refuses_own kind h
          | inr h ↦ (more h.0).refuses_own kind h.1
        ];
  } where
    -- no bytes are those of two values whose first parts are the same and whose second ones are not
    apart : (v w : V) (s : List ℕ)
        → ((b : List ℕ) → (M (split v).0).encodes (split v).1 b → (M (split w).0).encodes (split w).1 b → ⊥)
        → Parts (L.encodes (split v).0) ((M (split v).0).encodes (split v).1) s
        → Parts (L.encodes (split w).0) ((M (split w).0).encodes (split w).1) s → ⊥
    apart v w s n h k =
        let first = laws.decodes (split v).0 (split w).0 h.prefix k.prefix h.suffix k.suffix h.first_is k.first_is
        (sym h.whole_is ∙ k.whole_is) in
        n h.suffix h.second_is (subst ((M (split w).0).encodes (split w).1) (sym first.2) k.second_is)

-- values that can be put together again from their parts differ in their parts
pub told_apart : {U V : Type 0} {W : U → Type 0} (split : V → (u : U) × W u) (join : (u : U) → W u → V)
    → ((v : V) → join (split v).0 (split v).1 ≡ v) → (v w : V) → split v ≡ split w → v ≡ w
told_apart {U = U} {W = W} split join suffix v w e = sym (suffix v)
    ∙ (ap (λ (p : (u : U) × W u). join p.0 p.1) e ∙ suffix w)
