-- The UTF-8 of characters is made of bytes. What UTF-8 is, std says (`IsUtf8` of `Rattle.std.specs.Str`).
use Rattle.std.specs.Prelude.{◌≡◌, ℕ, ◌<◌, List, [], ◌∷◌, Bool, true, false, cond, ◌&&◌, refl}
use Rattle.std.proofs.Common.{sym, ◌∙◌, subst, arith, ltb, leb, ltb-true}
use Rattle.std.specs.Str.{IsUtf8}
use lib.Utf8.{encode, encodes, scalar, scalars}
use Rattle.speedy_base.specs.Digits.{AreBytes}
use Rattle.speedy_base.specs.DigitsLemmas.{AreBytes-append}

either_bytes : (b : Bool) (xs ys : List ℕ) → (b ≡ true → AreBytes xs) → (b ≡ false → AreBytes ys)
    → AreBytes (cond b xs ys)
either_bytes true xs ys f g = f refl
either_bytes false xs ys f g = g refl

-- the bytes of one character
AreBytes-encode : (c : ℕ) → c < 1114112 → AreBytes (encode c)
unfolding encode
AreBytes-encode c h =
    either_bytes (ltb c 128) _ _ (λ e. let l = ltb-true c 128 e in (omega arith, tt)) (λ _.
    either_bytes (ltb c 2048) _ _ (λ e. let l = ltb-true c 2048 e in (omega arith, (omega arith, tt))) (λ _.
    either_bytes (ltb c 65536) _ _
    (λ e. let l = ltb-true c 65536 e in (omega arith, (omega arith, (omega arith, tt)))) (λ _.
    (omega arith, (omega arith, (omega arith, (omega arith, tt)))))))

below_last : (c : ℕ) (b x y : Bool) → b ≡ ltb c 55296 → y ≡ ltb c 1114112 → cond b true (x && y) ≡ true → c < 1114112
below_last c true x y e f h = let l = ltb-true c 55296 (sym e) in omega arith
below_last c false true y e f h = ltb-true c 1114112 (sym f ∙ h)
below_last c false false y e f h = absurd (cc)

both_true : (a b : Bool) → (a && b) ≡ true → (a ≡ true) × (b ≡ true)
both_true true b e = (refl, e)
both_true false b e = absurd (cc)

AreBytes-encodes : (cs : List ℕ) → scalars cs ≡ true → AreBytes (encodes cs)
AreBytes-encodes [] h = tt
AreBytes-encodes (c ∷ cs) h =
    let both = both_true (scalar c) (scalars cs) h in
    AreBytes-append (encode c) (encodes cs)
    (AreBytes-encode c (below_last c (ltb c 55296) (leb 57344 c) (ltb c 1114112) refl refl both.0))
    (AreBytes-encodes cs both.1)

-- a text's bytes are bytes
pub AreBytes-utf8 : (bytes : List ℕ) → IsUtf8 bytes → AreBytes bytes
AreBytes-utf8 bytes u = subst AreBytes u.1.1 (AreBytes-encodes u.0 u.1.0)
