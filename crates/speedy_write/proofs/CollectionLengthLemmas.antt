-- The items of a collection are written one after the other, and make a write of a collection of its length.
use Rattle.std.specs.Prelude.{ℕ, ◌≡◌, List, length, map, Bool, Result, refl}
use Rattle.std.proofs.Common.{subst}
use Rattle.std.specs.Iterator.{AlwaysYields}
use Rattle.std.specs.Map.Iter.{TakesFirst, deref, deref_pair}
use Rattle.speedy_base.specs.declared.error.Error.{Error}
use Rattle.speedy_base.specs.Mode.{Mode}
use Rattle.speedy_layout.specs.Codes.{coding}
use Rattle.speedy_layout.specs.Format.{Format}
use Rattle.speedy_layout.specs.GatheredLengths.{HasLengths, gathered_of_length, written_single, of_length_form}
use Rattle.speedy_layout.specs.GatheredLengths.{of_length_form_length}
use Rattle.speedy_layout.specs.Gathering.{IsGathering}
use Rattle.speedy_layout.specs.Laws.{Codec}
use Rattle.speedy_layout.specs.Lists.{repeat, vector}
use Rattle.speedy_layout.specs.Maps.{seen_pair}
use Rattle.speedy_layout.specs.Owned.{owned_content, borrowed_content}
use Rattle.speedy_layout.specs.Sequences.{sequence}
use Rattle.speedy_layout.specs.Tuples.{pair, pair_codec}
use Rattle.speedy_write.specs.Sequences.{Writes-as}
use Rattle.speedy_write.specs.Writing.{WriterState, Writes}
use Rattle.speedy_write.proofs.CollectionLemmas.{shown_in_order}

module _ {E : Type 0} {gives : Error → E → Type 0} {result : Result (Unit {0}) E} {old new : WriterState}
    {appended : List ℕ → Type 0} where
  -- lent items are written as the items
  lent_items : {X : Type 0} (n : ℕ) {shown : List X} (F : Mode → Format X)
      → Writes gives (λ f. vector n (borrowed_content (F f))) shown result old new appended
      → Writes gives (λ f. vector n (F f)) shown result old new appended
  unfolding vector owned_content repeat borrowed_content
  lent_items n F w = Writes-as (λ _ k. k) (λ _ h. h) (λ b h. (b, h, refl)) (λ b h. (b, h)) w

  -- and so are pairs of lent parts
  lent_pairs : {K V : Type 0} (n : ℕ) {shown : List (K × V)} (F : Mode → Format K) (G : Mode → Format V)
      → Writes gives (λ f. vector n (pair (borrowed_content (F f)) (borrowed_content (G f)))) shown result old new
      appended
      → Writes gives (λ f. vector n (pair (F f) (G f))) shown result old new appended
  unfolding sequence vector owned_content repeat borrowed_content
  lent_pairs n F G w = Writes-as (λ _ k. k) (λ _ h. h) (λ b h. (b, h, refl)) (λ b h. (b, h)) w

module _ {E S : Type 0} {gives : Error → E → Type 0} {hashed : Bool} {whole : S} {result : Result (Unit {0}) E}
    {old new : WriterState} {appended : List ℕ → Type 0} where
  -- a form of a collection is written as the collection
  form_of_length_written : {X : Type 0} {stands : List X → S → Type 0} {written single : List X → Type 0}
      {count : S → ℕ} {shown : List X} (item : Codec X) → IsGathering hashed stands written
      → HasLengths stands written single count → stands shown whole × written shown × single shown
      → Writes gives (λ f. vector (length shown) (item.format f)) shown result old new appended
      → Writes gives (λ f. gathered_of_length hashed f stands written single (count whole) (item.format f)) whole result
      old new appended
  unfolding coding vector owned_content repeat
  form_of_length_written {single = single} {count = count} {shown = shown} item is has form w =
      let f = old.mode in
      let n = count whole in
      let laws = item.laws f in
      Writes-as (λ kind k. k)
      (λ b h. record {
        code = shown;
        code_is = written_single f single n (item.format f) shown b h.0 h.1 form.2;
        stands = (form.0, form.1);
      })
      (λ b h. of_length_form_length f laws is has n whole b h shown form.0 form.1 form.2)
      (λ b h. of_length_form f laws is has n whole b h shown form.0 form.2)
      (subst (λ m. Writes gives (λ f. vector m (item.format f)) shown result old new appended)
      (has.long shown whole form.2 form.0) w)

  -- The lent items of a set, which an iterator shows in their order, where they are a form of it.
  pub set_of_length_written : {T X : Type 0} {stands : List X → S → Type 0} {written single : List X → Type 0}
      {count : S → ℕ} {items rest : List T} (item : Codec X) (seen : T → X) → IsGathering hashed stands written
      → HasLengths stands written single count
      → stands (map seen items) whole × written (map seen items) × single (map seen items) → rest ≡ items
      → ((shown : List X) → AlwaysYields (TakesFirst deref) (λ b. seen (deref b)) rest shown
      → Writes gives (λ f. vector (length shown) (borrowed_content (item.format f))) shown result old new appended)
      → Writes gives (λ f. gathered_of_length hashed f stands written single (count whole) (item.format f)) whole result
      old new appended
  set_of_length_written {items = items} item seen is has form same writes =
      form_of_length_written item is has form
      (lent_items _ item.format (writes (map seen items) (shown_in_order deref seen same)))

  -- and the lent pairs of a map
  pub map_of_length_written : {J U K V : Type 0} {stands : List (K × V) → S → Type 0}
      {written single : List (K × V) → Type 0} {count : S → ℕ} {entries rest : List (J × U)} (key : Codec K)
      (value : Codec V) (key_seen : J → K) (value_seen : U → V) → IsGathering hashed stands written
      → HasLengths stands written single count → let seen = seen_pair key_seen value_seen in
      stands (map seen entries) whole × written (map seen entries) × single (map seen entries) → rest ≡ entries
      → ((shown : List (K × V)) → AlwaysYields (TakesFirst deref_pair) (λ p. seen (deref_pair p)) rest shown
      → Writes gives (λ f. vector (length shown)
      (pair (borrowed_content (key.format f)) (borrowed_content (value.format f)))) shown result old new appended)
      → Writes gives (λ f. gathered_of_length hashed f stands written single (count whole)
      (pair (key.format f) (value.format f))) whole result old new appended
  map_of_length_written {entries = entries} key value key_seen value_seen is has form same writes =
      let seen = seen_pair key_seen value_seen in
      form_of_length_written (pair_codec key value) is has form
      (lent_pairs _ key.format value.format (writes (map seen entries) (shown_in_order deref_pair seen same)))
