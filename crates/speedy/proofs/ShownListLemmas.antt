-- Lists that views show, or do not.
use Rattle.std.specs.Prelude.{◌≡◌, ℕ, List, [], ◌∷◌, ◌++◌, length, Bool, IsTrue, ◌⊎◌}
use Rattle.std.proofs.Common.{sym, ◌∙◌, ap, subst, inl, inr, arith, true≢false}
use Rattle.std.proofs.Math.Logic.{∥∥₁_elim}
use Rattle.std.proofs.lemmas.List.{append-nil, length-append}
use Rattle.speedy_base.specs.declared.endianness.Endianness.{Endianness}
use Rattle.speedy_base.specs.declared.error.Error.{Error}
use Rattle.speedy_base.specs.declared.error.ErrorKind.TheVariants as kinds
use Rattle.speedy_base.specs.Error.{error_of}
use Rattle.speedy_base.specs.Mode.{plain_mode}
use Rattle.speedy_layout.specs.Lists.{each_decodes, repeat}
use Rattle.speedy_read.specs.WaysOfReading.{Counts, RefusesBufferIf}
use Rattle.speedy.specs.InPlace.{InPlaceCodec}
use Rattle.speedy.specs.EncodedLists.{EncodesItems, IsEncodedList, one_list}

module _ {V : Type 0} (item : InPlaceCodec V) {order other : Endianness} {count number : ℕ} {bytes more : List ℕ}
    (in_order : other ≡ order) (many : number ≡ count) (same : more ≡ bytes) where
  -- a list of the same bytes, said in other words
  said_again : IsEncodedList item.codec other number more → IsEncodedList item.codec order count bytes
  said_again list = (
    list.0,
    subst (λ o. ∥ EncodesItems item.codec o count list.0 bytes ∥₁) in_order
        (subst (λ n. ∥ EncodesItems item.codec other n list.0 bytes ∥₁) many
        (subst (λ b. ∥ EncodesItems item.codec other number list.0 b ∥₁) same list.1)),
  )

  -- is the same one
  pub same_list : (list : IsEncodedList item.codec order count bytes)
      (again : IsEncodedList item.codec other number more) → again.0 ≡ list.0
  unfolding said_again
  same_list list again =
      one_list item order count bytes again.0 list.0 ((said_again again).1) list.1

  -- there is none where the bytes are refused
  pub none_refused : {gives : Error → Error → Type 0} {error : Error} {eof : Error → Bool}
      → IsEncodedList item.codec other number more
      → (gives (error_of kinds.OutOfMemory) error
      × IsTrue (repeat count (item.codec.format (plain_mode order))).asks.memory)
      ⊎ RefusesBufferIf gives eof (Unit {0}) (repeat count (item.codec.format (plain_mode order))).names
      (repeat count (item.codec.format (plain_mode order))) error bytes
      → ⊥
  unfolding repeat said_again
  none_refused list (inl lacks) = true≢false (sym lacks.1 ∙ item.no_memory (plain_mode order))
  none_refused list (inr x) =
      let it = said_again list in
      ∥∥₁_elim it.1 (λ a b. absurd a)
      (λ h. (x.because tt).no_prefix it.0 bytes [] (sym (append-nil bytes)) h)

  -- nor where the items have another number of bytes
  pub none_of_size : {size : ℕ} → IsEncodedList item.codec other number more → (vs : List V)
      → Counts ((repeat count (item.codec.format (plain_mode order))).encodes vs) size bytes
      → (size ≡ length bytes → ⊥) → ⊥
  unfolding repeat said_again
  none_of_size list vs found other_size =
      let it = said_again list in
      ∥∥₁_elim it.1 (λ a b. absurd a)
      (λ h.
      let whole = each_decodes (item.codec.laws (plain_mode order)) vs it.0 found.prefix bytes found.rest []
      (found.prefix_is.0 ∙ sym h.0) found.prefix_is.1 h.1 (sym found.whole_is ∙ sym (append-nil bytes)) in
      other_size (found.count_is ∙ ap length whole.1))

all_of : (prefix rest : List ℕ) → length prefix ≡ length (prefix ++ rest) → prefix ++ rest ≡ prefix
all_of prefix [] h = append-nil prefix
all_of prefix (b ∷ rest) h = absurd (let l = length-append prefix (b ∷ rest) in omega (arith, l, h))

-- items that have as many bytes as there are have all of them
pub all_encode : {V : Type 0} (item : InPlaceCodec V) (order : Endianness) {count size : ℕ} {bytes : List ℕ}
    (vs : List V) → Counts ((repeat count (item.codec.format (plain_mode order))).encodes vs) size bytes
    → size ≡ length bytes → EncodesItems item.codec order count vs bytes
unfolding repeat
all_encode item order {count = count} {bytes = bytes} vs found all =
    let whole = found.whole_is
    ∙ all_of found.prefix found.rest (sym found.count_is ∙ (all ∙ ap length found.whole_is)) in
    subst (λ b. EncodesItems item.codec order count vs b) (sym whole) found.prefix_is
