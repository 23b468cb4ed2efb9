-- Bytes that are written as zeros: any are read, or zeros alone.
use Rattle.std.specs.Prelude.{◌≡◌, ℕ, List, [], ◌∷◌, replicate, refl}
use Rattle.std.proofs.Common.{sym, ◌∙◌, arith}
use Rattle.std.proofs.lemmas.List.{length-replicate}
use Rattle.speedy_layout.specs.Codes.{Codebook, IsCode, ReadsWider, coding_codec, exact_code, exact_is_code}
use Rattle.speedy_layout.specs.Laws.{Codec}
use Rattle.speedy_layout.specs.Texts.{IsExpected, expected_own, raw_bytes, raw_bytes_codec}

abbrev pub zeros : ℕ → List ℕ
zeros n = replicate n 0

-- ---- padding

-- any bytes are read as padding of their length, and zeros are written
abbrev pub padding_code : ℕ → Codebook (List ℕ) ℕ
padding_code n = record {
  means = λ _ v. v ≡ n;
  chosen = λ bytes v. (v ≡ n) × (bytes ≡ zeros n);
  refusals = λ _. ⊥;
}

-- other bytes than zeros are read, and not written
pub padding_reads_wider : (n : ℕ) (bytes : List ℕ) → (bytes ≡ zeros n → ⊥) → ReadsWider (padding_code n)
padding_reads_wider n bytes others = record { code = bytes; value = n; meant = refl; not_chosen = λ h. others h.1 }

pub padding_is_code : (n : ℕ) → IsCode (padding_code n) (raw_bytes n)
unfolding raw_bytes
padding_is_code n = record {
  one_meaning = λ u v w h k. h ∙ sym k;
  one_chosen = λ _ u w v h k. h.1 ∙ sym k.1;
  tells = λ e. absurd (cc);
  chosen_means = λ u v h. h.0;
  has_chosen = λ v b h.
      (zeros n, record { code = zeros n; code_is = (refl, length-replicate {A = ℕ} n 0); stands = (h.stands, refl) });
  chosen_shortest = λ _ v b d h k. let l = h.code_is.1 in let m = k.code_is.1 in omega arith;
  refusals_own = λ kind h. absurd h;
}

-- n bytes of padding, seen as n
abbrev pub padding_codec : ℕ → Codec ℕ
padding_codec n = coding_codec (padding_code n) (raw_bytes_codec n) (λ _. padding_is_code n)

-- ---- zeros

-- n zeros; other bytes are refused as not the constant that stands at each place, a zero
abbrev pub zeros_code : ℕ → Codebook (List ℕ) ℕ
zeros_code n = exact_code (λ bytes v. (v ≡ n) × (bytes ≡ zeros n)) (IsExpected (0 ∷ []))

pub zeros_is_code : (n : ℕ) → IsCode (zeros_code n) (raw_bytes n)
zeros_is_code n =
    exact_is_code (expected_own (0 ∷ [])) (λ u v w h k. h.0 ∙ sym k.0) (λ u w v h k. h.1 ∙ sym k.1)

-- n zeros, seen as n
abbrev pub zeros_codec : ℕ → Codec ℕ
zeros_codec n = coding_codec (zeros_code n) (raw_bytes_codec n) (λ _. zeros_is_code n)
