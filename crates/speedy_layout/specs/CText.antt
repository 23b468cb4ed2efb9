-- Texts and bytes that end with a NUL, which is a zero byte.
use Rattle.std.specs.Prelude.{◌≡◌, ◌≢◌, ℕ, ◌+◌, List, [], ◌∷◌, ◌++◌, All, Bool, length, Option, MatchOption, refl}
use Rattle.std.proofs.Common.{sym, ◌∙◌, ap, subst, arith}
use Rattle.std.proofs.lemmas.List.{append_assoc, length-append}
use Rattle.std.proofs.lemmas.List.Elements.{All-head, All-tail}
use Rattle.std.specs.Str.{IsUtf8}
use Rattle.speedy_base.specs.declared.error.ErrorKind.TheVariants as kinds
use Rattle.speedy_layout.specs.Codes.{subset_codec}
use Rattle.speedy_layout.specs.Format.{Format, plain_format}
use Rattle.speedy_layout.specs.Laws.{Laws, Codec, plain_laws, writes_itself}

-- none of the bytes is a NUL
abbrev pub HasNoNul : List ℕ → Type 0
HasNoNul bytes = All (λ b. b ≢ 0) bytes

-- the first NUL and the bytes before it are n bytes
pub record NulWithin (bytes : List ℕ) (n : ℕ) : Type 0 where
  pub before : List ℕ
  pub behind : List ℕ
  pub whole_is : bytes ≡ before ++ 0 ∷ behind
  pub has_none : HasNoNul before
  pub so_many : length before + 1 ≡ n

-- how many these are, where there is a NUL
abbrev pub FindsNul : List ℕ → Option ℕ → Type 0
FindsNul bytes found = MatchOption found (HasNoNul bytes) (NulWithin bytes)

-- where one stands, they are not without
pub some_nul : (v rest : List ℕ) → HasNoNul (v ++ (0 ∷ rest)) → ⊥
some_nul [] rest h = All-head (λ b. b ≢ 0) 0 rest h refl
some_nul (b ∷ v) rest h = some_nul v rest (All-tail (λ b. b ≢ 0) b (v ++ (0 ∷ rest)) h)

pub NulWithin-some : {bytes : List ℕ} {n : ℕ} → NulWithin bytes n → HasNoNul bytes → ⊥
NulWithin-some at none = some_nul at.before at.behind (subst HasNoNul at.whole_is none)

-- bytes without a NUL, and then one
unfoldable pub nul_ended : Format (List ℕ)
nul_ended = plain_format (λ v bytes. HasNoNul v × (bytes ≡ v ++ 0 ∷ []))

-- what stands before the first NUL, and behind it, is decided by the bytes
pub before_nul : (v w r q : List ℕ) → HasNoNul v → HasNoNul w → v ++ (0 ∷ r) ≡ w ++ (0 ∷ q) → (v ≡ w) × (r ≡ q)
before_nul [] [] r q h k e = (refl, (cc))
before_nul [] (c ∷ w) r q h k e = absurd (All-head (λ b. b ≢ 0) c w k (cc))
before_nul (b ∷ v) [] r q h k e = absurd (All-head (λ b. b ≢ 0) b v h (cc))
before_nul (b ∷ v) (c ∷ w) r q h k e =
    let heads : b ≡ c = cc in
    let tails : v ++ (0 ∷ r) ≡ w ++ (0 ∷ q) = cc in
    let more = before_nul v w r q (All-tail (λ b. b ≢ 0) b v h) (All-tail (λ b. b ≢ 0) c w k) tails in
    (let same = more.0 in (cc), more.1)

pub nul_ended_laws : {strict : Bool} → Laws strict 1 nul_ended
unfolding nul_ended
nul_ended_laws =
    plain_laws
    (λ v w s t r q h k e.
    let joined : v ++ (0 ∷ r) ≡ w ++ (0 ∷ q) =
    sym (append_assoc v (0 ∷ []) r) ∙ (ap (λ x. x ++ r) (sym h.1) ∙ (e ∙ (ap (λ x. x ++ q) k.1
    ∙ append_assoc w (0 ∷ []) q))) in
    let same = before_nul v w r q h.0 k.0 joined in
    (same.0, h.1 ∙ (ap (λ x. x ++ 0 ∷ []) same.0 ∙ sym k.1), same.1))
    (λ v b h. let l = ap length h.1 ∙ length-append v (0 ∷ []) in omega arith)
    (λ v b c h k. h.1 ∙ sym k.1)

-- bytes, of which none is a NUL, before one
abbrev pub nul_ended_codec : Codec (List ℕ)
nul_ended_codec = record {
  least = 1;
  format = λ _. nul_ended;
  laws = λ _. nul_ended_laws;
  same_written = λ _ _. writes_itself;
}

-- and those of a text; others are refused
abbrev pub nul_ended_text_codec : Codec (List ℕ)
nul_ended_text_codec = subset_codec IsUtf8 kinds.InvalidUtf8 tt nul_ended_codec
