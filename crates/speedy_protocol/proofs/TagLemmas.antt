-- Where the tag of a message stands.
use Rattle.std.specs.Prelude.{◌≡◌, ℕ, List, [], ◌∷◌, ◌++◌, length, ◌⊎◌, refl}
use Rattle.std.proofs.Common.{ap, sym, ◌∙◌, arith}
use Rattle.speedy.specs.DigitsLemmas.{EncodesNumber-is_one_byte}
use Rattle.speedy.specs.Choices.{either_case}
use Rattle.speedy.specs.Codes.{coding}
use Rattle.speedy.specs.Frames.{frame}
use Rattle.speedy.specs.Numbers.{unsigned_number}
use Rattle.speedy.specs.Sequences.{sequence}
use Rattle.speedy.specs.Texts.{raw_bytes}
use Rattle.speedy.specs.Prefixes.{BeginsWith}
use Rattle.speedy_protocol.proofs.MessageKinds.{FirstCases, LastCases, first_cases, last_cases, little, framed}

-- two bytes
two : (bytes : List ℕ) → length bytes ≡ 2 → (low high : ℕ) × (bytes ≡ low ∷ high ∷ [])
two [] is = absurd (omega arith)
two (a ∷ []) is = absurd (omega arith)
two (a ∷ b ∷ []) is = (a, b, refl)
two (a ∷ b ∷ c ∷ rest) is = absurd (omega arith)

-- it is the byte behind the number of a frame
pub tag_third : (v : FirstCases ⊎ LastCases) (bytes rest : List ℕ) → BeginsWith framed v bytes rest
    → (low high : ℕ) × (more : List ℕ) × (bytes ≡ low ∷ high ∷ (either_case first_cases last_cases).tag v ∷ more)
unfolding frame coding sequence raw_bytes unsigned_number
tag_third v bytes rest begins =
    let code = begins.1 in
    let number = two code.code_is.prefix code.code_is.first_is.width_is in
    let message = code.stands.0 in
    let tag = EncodesNumber-is_one_byte little.order _ message.prefix message.first_is in
    let content = sym code.code_is.second_is.0 ∙ (message.whole_is ∙ ap (λ xs. xs ++ message.suffix) tag) in
    let framed_as = code.code_is.whole_is
    ∙ (ap (λ xs. xs ++ code.code_is.suffix) number.2 ∙ ap (λ xs. number.0 ∷ number.1 ∷ xs) content) in
    (number.0, number.1, message.suffix ++ rest, begins.2 ∙ ap (λ xs. xs ++ rest) framed_as)
