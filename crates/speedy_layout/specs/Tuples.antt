-- No bytes, and two values one after the other.
-- A tuple of more parts is a pair of its first one and the tuple of the others.
use Rattle.std.specs.Prelude.{◌≡◌, ◌+◌, [], ◌++◌, refl, Bool}
use Rattle.std.proofs.Common.{sym, ◌∙◌, ap, arith}
use Rattle.speedy_layout.specs.Format.{Format, plain_format}
use Rattle.speedy_layout.specs.Laws.{Laws, Codec, plain_laws, saturated_size, saturated_laws, writes_itself}
use Rattle.speedy_layout.specs.Sequences.{sequence, sequence_laws, sequence_written, asks_same}

-- no bytes
unfoldable pub unit : Format (Unit {0})
unit = plain_format (λ _ bytes. bytes ≡ [])

pub unit_laws : {strict : Bool} → Laws strict 0 unit
unfolding unit
unit_laws =
    plain_laws
    (λ v w s t r q h k e. (refl, h ∙ sym k, ap (λ x. x ++ r) (sym h) ∙ (e ∙ ap (λ x. x ++ q) k)))
    (λ v b h. omega arith)
    (λ v b c h k. h ∙ sym k)

abbrev pub unit_codec : Codec (Unit {0})
unit_codec = record { least = 0; format = λ _. unit; laws = λ _. unit_laws; same_written = λ _ _. writes_itself }

-- two values, one after the other
abbrev pub pair : {U W : Type 0} → Format U → Format W → Format (U × W)
pair L M = sequence (λ p. p) L M.asks (λ _. M)

abbrev pub pair_codec : {U W : Type 0} → Codec U → Codec W → Codec (U × W)
pair_codec first second = record {
  least = saturated_size (first.least + second.least);
  format = λ f. pair (first.format f) (second.format f);
  laws = λ f. saturated_laws (sequence_laws (first.laws f) (λ _. second.laws f) (λ _. asks_same) (λ v w e. e));
  same_written = λ f strict. sequence_written (λ p. p) _ _ (first.same_written f strict)
      (λ _. second.same_written f strict);
}
