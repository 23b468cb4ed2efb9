-- Lists and texts behind a count of any format: what is written of n items or bytes, where the count was written.
use Rattle.std.specs.Prelude.{◌≡◌, ℕ, List, length, map, Result, refl}
use Rattle.std.proofs.Common.{ap, sym}
use Rattle.std.proofs.lemmas.List.{length-map}
use Rattle.std.specs.Str.{IsUtf8}
use Rattle.speedy_base.specs.declared.error.Error.{Error}
use Rattle.speedy_base.specs.Mode.{Mode}
use Rattle.speedy_layout.specs.Codes.{coding}
use Rattle.speedy_layout.specs.Format.{Format}
use Rattle.speedy_layout.specs.Lists.{vector}
use Rattle.speedy_layout.specs.Owned.{owned_content}
use Rattle.speedy_layout.specs.Sequences.{counted_parts, so_many}
use Rattle.speedy_layout.specs.Texts.{raw_bytes, text_of_length, text_of_length_laws}
use Rattle.speedy_write.specs.Writing.{WriterState, Writes, WritesBytes, WritesEach}
use Rattle.speedy_write.specs.Sequences.{Writes-as, form_written}

-- as many items as are seen
pub counts_items : {A V : Type 0} (seen : A → V) (items : List A)
    → counted_parts (map seen items) ≡ (length items, map seen items)
counts_items seen items = so_many (length items) (map seen items) (length-map items seen)

-- as many bytes as the text has
pub counts_bytes : (slice text : List ℕ) → slice ≡ text → counted_parts text ≡ (length slice, text)
counts_bytes slice text same = so_many (length slice) text (ap length (sym same))

module _ {E : Type 0} {gives : Error → E → Type 0} {result : Result (Unit {0}) E} {old new : WriterState}
    {appended : List ℕ → Type 0} where
  pub items_written : {A V : Type 0} (F : Mode → Format V) (seen : A → V) (items : List A)
      → WritesEach gives F seen items result old new appended
      → Writes gives (λ mode. vector (length items) (F mode)) (map seen items) result old new appended
  unfolding vector owned_content
  items_written F seen items w = Writes-as (λ _ k. k) (λ _ h. h) (λ b h. (b, h, refl)) (λ b h. (b, h)) w

  pub text_bytes_written : {text slice : List ℕ} → slice ≡ text → IsUtf8 text
      → WritesBytes gives slice result old new appended
      → Writes gives (λ mode. text_of_length mode (length slice)) text result old new appended
  unfolding text_of_length owned_content coding raw_bytes
  text_bytes_written {text = text} {slice = slice} same utf8 w =
      form_written (λ mode. text_of_length_laws mode (length slice))
      (record { code = slice; code_is = (refl, refl); stands = (same, utf8) }) w
