-- What holds of each layout.
use Rattle.std.specs.Prelude.{◌≡◌, ℕ, ◌-◌, ◌^◌, ◌≤◌, List, [], ◌∷◌, ◌++◌, length, min, false, Bool, IsTrue, ◌⊎◌, refl}
use Rattle.std.proofs.Common.{ap, ap₂, subst, inl, inr, arith}
use Rattle.std.proofs.lemmas.Bool.Decides.{eqb_tells}
use Rattle.std.proofs.Math.Nat.{min-le_left}
use Rattle.speedy_base.specs.declared.error.ErrorKind.{ErrorKind}
use Rattle.speedy_base.specs.Mode.{Mode}
use Rattle.speedy_layout.specs.Format.{Asks, Format, plain_format, IsOwnKind}

-- it holds or it does not, which is decided
abbrev pub Decided : Type 0 → Type 0
Decided P = P ⊎ (P → ⊥)

-- The laws of a format whose encodings have at least `least` bytes, under a demand for the canonical encoding or none.
pub record Laws {V : Type 0} (strict : Bool) (least : ℕ) (F : Format V) : Type 0 where
  -- one list of bytes encodes at most one value, and no encoding begins another
  pub decodes : (v w : V) (s t r q : List ℕ) → F.encodes v s → F.encodes w t → s ++ r ≡ t ++ q
      → (v ≡ w) × (s ≡ t) × (r ≡ q)
  -- whether two values that have encodings are the same is decided
  pub tells : (v w : V) (s t : List ℕ) → F.encodes v s → F.encodes w t → Decided (v ≡ w)
  -- what is written encodes the value
  pub written_encodes : (v : V) (b : List ℕ) → F.writes v b → F.encodes v b
  -- and under a demand for the canonical encoding, what encodes the value is written
  pub written_alone : IsTrue strict → (v : V) (b : List ℕ) → F.encodes v b → F.writes v b
  -- no encoding is shorter than what is written
  pub shortest : (v : V) (b c : List ℕ) → F.writes v b → F.encodes v c → length b ≤ length c
  -- an encoding has at least the type's least size
  pub least_size : (v : V) (b : List ℕ) → F.encodes v b → least ≤ length b
  -- a value that has an encoding has a written one
  pub has_written : (v : V) (b : List ℕ) → F.encodes v b → (w : List ℕ) × F.writes v w
  -- just one, where no part is hashed
  pub one_written : F.asks.hashed ≡ false → (v : V) (b c : List ℕ) → F.writes v b → F.writes v c → b ≡ c
  -- malformed bytes begin with no encoding
  pub malformed_undecodable : (v : V) (prefix rest : List ℕ) → F.malformed (prefix ++ rest) → F.encodes v prefix → ⊥
  -- bytes with a wrong length are malformed
  pub wrong_length_malformed : (b : List ℕ) → F.wrong_length b → F.malformed b
  -- the kinds that a type names are its own
  pub names_own : (kind : ErrorKind) → F.names kind → IsOwnKind kind
  -- and so are those that its writing is refused with
  pub refuses_own : (kind : ErrorKind) → F.refuses_writing kind → IsOwnKind kind

-- What the first format writes of a value, the second one writes of it too.
pub record WritesToo {V : Type 0} (F G : Format V) : Type 0 where
  pub too : (v : V) (b : List ℕ) → F.writes v b → G.writes v b

pub writes_itself : {V : Type 0} {F : Format V} → WritesToo F F
writes_itself = record { too = λ v b h. h }

-- the canonical encodings of a value are the same bytes, whether or not they alone are accepted
abbrev pub SameWritten : {V : Type 0} → (Mode → Format V) → Type 0
SameWritten format = (f : Mode) (strict : Bool) → WritesToo (format f) (format (record f { strict = strict }))

-- A format under each mode, with its least size and its laws, as one value: what quotes a layout has its laws too.
pub record Codec (V : Type 0) : Type 1 where
  -- no value is encoded in fewer bytes
  pub least : ℕ
  -- which bytes encode which values
  pub format : Mode → Format V
  -- bytes encode at most one value, the encodings are prefix-free, and a shortest one is written
  pub laws : (f : Mode) → Laws f.strict least (format f)
  -- which one is written, only the order says
  pub same_written : SameWritten format

-- whether two lists of bytes are the same is decided
same_bytes : (s t : List ℕ) → Decided (s ≡ t)
same_bytes [] [] = inl refl
same_bytes [] (c ∷ t) = inr (λ e. absurd (cc))
same_bytes (b ∷ s) [] = inr (λ e. absurd (cc))
same_bytes (b ∷ s) (c ∷ t) =
    elim (eqb_tells b c) [
      | inl h ↦ elim (same_bytes s t) [
        | inl e ↦ inl (ap₂ ◌∷◌ h.1 e)
        | inr n
            ↦ inr (λ e. n (let tails : s ≡ t = cc in tails))
      ]
      | inr h ↦ inr (λ e. h.1 (let heads : b ≡ c = cc in heads))
    ]

-- the laws of a plain format whose values have one encoding each
pub plain_laws : {V : Type 0} {strict : Bool} {least : ℕ} {encodes : V → List ℕ → Type 0}
    → ((v w : V) (s t r q : List ℕ) → encodes v s → encodes w t → s ++ r ≡ t ++ q → (v ≡ w) × (s ≡ t) × (r ≡ q))
    → ((v : V) (b : List ℕ) → encodes v b → least ≤ length b)
    → ((v : V) (b c : List ℕ) → encodes v b → encodes v c → b ≡ c)
    → Laws strict least (plain_format encodes)
plain_laws {encodes = encodes} decodes least_size one = record {
  decodes = decodes;
  tells = λ v w s t h k.
      elim (same_bytes s t) [
        | inl e ↦ inl ((decodes v w s t [] [] h k (ap (λ b. b ++ []) e)).0)
        | inr n ↦ inr (λ e. n (one w s t (subst (λ x. encodes x s) e h) k))
      ];
  written_encodes = λ _ _ h. h;
  written_alone = λ _ _ _ h. h;
  shortest = λ v b c h k. let e = ap length (one v b c h k) in omega arith;
  least_size = least_size;
  has_written = λ _ b h. (b, h);
  one_written = λ _ v b c h k. one v b c h k;
  malformed_undecodable = λ _ _ _ h _. h;
  wrong_length_malformed = λ _ h. h;
  names_own = λ kind h. absurd h;
  refuses_own = λ kind h. absurd h;
}

-- a format of the same bytes whose writing is refused with other kinds
pub Laws-refusing : {V : Type 0} {strict : Bool} {least : ℕ} {F : Format V} (refuses : ErrorKind → Type 0)
    → ((kind : ErrorKind) → refuses kind → IsOwnKind kind) → Laws strict least F
    → Laws strict least (record F { refuses_writing = refuses })
Laws-refusing refuses own laws = record {
  decodes = laws.decodes;
  tells = laws.tells;
  written_encodes = laws.written_encodes;
  written_alone = laws.written_alone;
  shortest = laws.shortest;
  least_size = laws.least_size;
  has_written = laws.has_written;
  one_written = laws.one_written;
  malformed_undecodable = laws.malformed_undecodable;
  wrong_length_malformed = laws.wrong_length_malformed;
  names_own = laws.names_own;
  refuses_own = own;
}

-- a format of the same bytes in which other lengths are wrong
pub Laws-lengths : {V : Type 0} {strict : Bool} {least : ℕ} {F : Format V} (wrong : List ℕ → Type 0)
    → ((b : List ℕ) → wrong b → F.malformed b) → Laws strict least F
    → Laws strict least (record F { wrong_length = wrong })
Laws-lengths wrong malformed laws = record {
  decodes = laws.decodes;
  tells = laws.tells;
  written_encodes = laws.written_encodes;
  written_alone = laws.written_alone;
  shortest = laws.shortest;
  least_size = laws.least_size;
  has_written = laws.has_written;
  one_written = laws.one_written;
  malformed_undecodable = laws.malformed_undecodable;
  wrong_length_malformed = malformed;
  names_own = laws.names_own;
  refuses_own = laws.refuses_own;
}

-- a smaller least size, of a format of the same bytes that asks otherwise, but is hashed where the first is
pub Laws-asking : {V : Type 0} {strict : Bool} {n m : ℕ} {F : Format V} (asks : Asks)
    → (asks.hashed ≡ false → F.asks.hashed ≡ false) → m ≤ n → Laws strict n F → Laws strict m (record F { asks = asks })
Laws-asking asks hashed less laws = record {
  decodes = laws.decodes;
  tells = laws.tells;
  written_encodes = laws.written_encodes;
  written_alone = laws.written_alone;
  shortest = laws.shortest;
  least_size = λ v b h. let l = laws.least_size v b h in omega arith;
  has_written = laws.has_written;
  one_written = λ h. laws.one_written (hashed h);
  malformed_undecodable = laws.malformed_undecodable;
  wrong_length_malformed = laws.wrong_length_malformed;
  names_own = laws.names_own;
  refuses_own = laws.refuses_own;
}

pub Laws-less : {V : Type 0} {strict : Bool} {n m : ℕ} {F : Format V} → m ≤ n → Laws strict n F → Laws strict m F
Laws-less {F = F} less laws = Laws-asking F.asks (λ h. h) less laws

-- the number, or `usize::MAX` where it passes that
abbrev pub saturated_size : ℕ → ℕ
saturated_size n = min n (2 ^ 64 - 1)

-- and it is a least size too
pub saturated_laws : {V : Type 0} {strict : Bool} {n : ℕ} {F : Format V} → Laws strict n F
    → Laws strict (saturated_size n) F
saturated_laws {n = n} laws = Laws-less (min-le_left n (2 ^ 64 - 1)) laws
