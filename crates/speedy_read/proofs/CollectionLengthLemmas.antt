-- Reads of items make reads of what they gather to, where its length is told elsewhere.
use Rattle.std.specs.Prelude.{◌≡◌, ℕ, List, ◌++◌, length, map, Bool, Result, Ok, Err, IsErrAnd, refl}
use Rattle.std.proofs.Common.{sym, ◌∙◌, subst, inl, inr, arith}
use Rattle.std.proofs.lemmas.List.{length-map}
use Rattle.speedy_base.specs.declared.error.ErrorKind.TheVariants as kinds
use Rattle.speedy_base.specs.declared.error.Error.{Error}
use Rattle.speedy_base.specs.Error.{error_of}
use Rattle.speedy_base.specs.Mode.{Mode}
use Rattle.speedy_layout.specs.Codecs.{Codec, vector_codec}
use Rattle.speedy_layout.specs.Codes.{Accepts-is, coding, subset_code}
use Rattle.speedy_layout.specs.Format.{Asks, Format}
use Rattle.speedy_layout.specs.GatheredLengths.{IsSingle, AreForms, one_length, beside_length, single_items}
use Rattle.speedy_layout.specs.GatheredLengths.{asks_unordered, gathered_of_length, single_encoded, encoded_single}
use Rattle.speedy_layout.specs.Gathering.{gathering}
use Rattle.speedy_layout.specs.Lists.{repeat, vector}
use Rattle.speedy_layout.specs.Owned.{owned_content}
use Rattle.speedy_layout.specs.Sequences.{AsksAtMost, asks_right}
use Rattle.speedy_read.specs.Codes.{Covers, refused_covered, code_refused, code_means_nothing}
use Rattle.speedy_read.specs.Collections.{gatherer, Collects}
use Rattle.speedy_read.specs.Reading.{ReaderState, Reads}
use Rattle.speedy_read.specs.ReadingLemmas.{Got-as, Reads-passed}
use Rattle.speedy_read.proofs.CollectionLemmas.{not_written_refused}

-- What the items say of the collection that they gather to, and of its length.
pub record TellsLength {T F V S : Type 0} (seen : T → V) (gathers : List T → F → Type 0)
    (stands : List V → S → Type 0) (single : List V → Type 0) (seen' : F → S) (count : S → ℕ) : Type 0 where
  pub meant : (items : List T) (whole : F) → gathers items whole → (s : S) × stands (map seen items) s
  -- a collection that is as long as the list stands for it, and nothing is repeated there
  pub kept : (items : List T) (whole : F) → gathers items whole → length items ≡ count (seen' whole)
      → stands (map seen items) (seen' whole) × single (map seen items)
  -- and else something is
  pub long : (items : List T) (whole : F) → gathers items whole → single (map seen items)
      → length items ≡ count (seen' whole)

module _ {T F V : Type 0} {seen : T → V} {gathers : List T → F → Type 0} {single : List V → Type 0} where
  -- a collection whose items are seen of it tells its length
  pub own_tells : {stands : List V → List V → Type 0} {written : List V → Type 0} {seen' : F → List V}
      → IsSingle stands single
      → AreForms stands written single
      → ((items : List T) (whole : F) → gathers items whole → stands (map seen items) (seen' whole))
      → TellsLength seen gathers stands single seen' length
  own_tells {seen' = seen'} is forms stands_for = record {
    meant = λ items whole h. (seen' whole, stands_for items whole h);
    kept = λ items whole h same.
        let xs = map seen items in
        let ys = seen' whole in
        let s = stands_for items whole h in
        let own = forms xs ys s in
        let l = length-map items seen in
        (s, is.no_longer ys xs ys own.2 own.0 s (omega (arith, same, l)));
    long = λ items whole h d.
        let s = stands_for items whole h in
        let own = forms (map seen items) (seen' whole) s in
        sym (length-map items seen) ∙ one_length is (map seen items) (seen' whole) (seen' whole) d own.2 s own.0;
  }

  -- and so does one beside whose value its length is seen
  pub beside_tells : {U : Type 0} {stands : List V → U → Type 0} {seen' : F → U} {count : F → ℕ}
      → IsSingle stands single
      → ((items : List T) (whole : F) → gathers items whole → stands (map seen items) (seen' whole))
      → ((items : List T) (whole : F) → gathers items whole
      → (ys : List V) × stands ys (seen' whole) × single ys × (length ys ≡ count whole))
      → TellsLength seen gathers (beside_length stands) single (λ whole. (seen' whole, count whole)) (λ p. p.1)
  beside_tells {seen' = seen'} is stands_for form = record {
    meant = λ items whole h.
        ((seen' whole, length (map seen items)), (stands_for items whole h, refl));
    kept = λ items whole h same.
        let f = form items whole h in
        let s = stands_for items whole h in
        let l = length-map items seen in
        let m = f.3 in
        ((s, l ∙ same), is.no_longer f.0 (map seen items) (seen' whole) f.2 f.1 s (omega (arith, same, l, m)));
    long = λ items whole h d.
        let f = form items whole h in
        sym (length-map items seen)
        ∙ (one_length is (map seen items) f.0 (seen' whole) d f.2 (stands_for items whole h) f.1 ∙ f.3);
  }

-- the same encodings, of which more is asked
asking_more : {V : Type 0} {F : Format V} {asks : Asks} → AsksAtMost F.asks asks → Covers F (record F { asks = asks })
asking_more more = record {
  under = λ v s h. (v, h);
  names = λ kind h. h;
  malformed = λ bytes are h. inl h;
  wrong_length = λ bytes are h. inl h;
  asks = more;
}

-- in items of which nothing is repeated no length stands that could be wrong
single_right : {V : Type 0} (f : Mode) (single : List V → Type 0) (n : ℕ) (L : Format V) (bytes : List ℕ)
    → (single_items f single n L).wrong_length bytes → ⊥
unfolding coding vector owned_content repeat
single_right f single n L bytes wrong = wrong

unordered_more : (hashed : Bool) (asks : Asks) → AsksAtMost asks (asks_unordered hashed asks)
unordered_more hashed asks = record {
  lending = λ t. t;
  hashed = (asks_right (record asks { hashed = hashed }) asks).hashed;
  memory = λ t. t;
}

module _ {T F V S : Type 0} {seen : T → V} {gathers : List T → F → Type 0} {stands : List V → S → Type 0}
    (written : List V → Type 0) {single : List V → Type 0} {seen' : F → S} {count : S → ℕ} (hashed : Bool)
    (tells : TellsLength seen gathers stands single seen' count) {E : Type 0} {gives : Error → E → Type 0}
    {eof : E → Bool} (item : Codec V) (n : ℕ) {result : Result F E} {old new : ReaderState} where
  -- where the list is refused, the collection is
  list_refused : {A : Type 0} {shown : A → List V} {e : E} → IsErrAnd result (λ x. x ≡ e)
      → Reads gives eof shown (single_items old.mode single n (item.format old.mode)) (Err e) old new
      → Reads gives eof seen'
      (gathered_of_length hashed old.mode stands written single n (item.format old.mode)) result old new
  list_refused {shown = shown} {e = e} passed r =
      let items = single_items old.mode single n (item.format old.mode) in
      let more : Reads gives eof shown (record items { asks = asks_unordered hashed items.asks }) (Err e) old new =
      refused_covered (asking_more (unordered_more hashed items.asks)) refl r in
      code_refused old.mode (gathering stands written) passed more

  -- the items are refused, or none of a collection is written as they are, where that is demanded
  pub of_length_refused : {e : E} → ((xs ys : List V) → written (xs ++ ys) → written xs)
      → IsErrAnd result (λ x. x ≡ e)
      → Collects (gatherer seen gathers (λ items. written (map seen items))) (item.format old.mode) n gives eof
      (Err e) old new
      → Reads gives eof seen'
      (gathered_of_length hashed old.mode stands written single n (item.format old.mode)) result old new
  unfolding vector owned_content
  of_length_refused {e = e} first passed r =
      elim r.answer [
        | inl x ↦ by_list (record { kept = r.kept; answer = inl x })
        | inr x ↦ elim x [
          | inl y ↦ by_list (record { kept = r.kept; answer = inr y })
          | inr y ↦
              let value = tells.meant y.1.items y.1.whole y.1.gathered in
              let M = single_items old.mode single n (item.format old.mode) in
              Reads-passed passed (not_written_refused (gathering stands written)
              (λ items more s h. first (map seen items) more h.1) y.1 value.0 value.1
              (record M { asks = asks_unordered hashed M.asks }) (item.laws old.mode)
              (λ vs s h. let k = single_encoded old.mode single n (item.format old.mode) vs s h in (k.0, k.1))
              (single_right old.mode single n (item.format old.mode)) y.0 r.kept)
        ]
      ] where
        by_list : Reads gives eof (λ (vs : List V). vs) (vector n (item.format old.mode)) (Err e) old new
            → Reads gives eof seen'
            (gathered_of_length hashed old.mode stands written single n (item.format old.mode)) result old new
        by_list r = list_refused {shown = λ (vs : List V). vs} passed
            (code_refused old.mode (subset_code single kinds.OutOfRangeLength) refl r)

module _ {T F V S : Type 0} {seen : T → V} {gathers : List T → F → Type 0} {stands : List V → S → Type 0}
    (written : List V → Type 0) {single : List V → Type 0} {seen' : F → S} {count : S → ℕ} (hashed : Bool)
    (tells : TellsLength seen gathers stands single seen' count) {E : Type 0} {gives : Error → E → Type 0}
    {eof : E → Bool} (item : Codec V) {n : ℕ} {old new : ReaderState} {whole : F}
    (r : Collects (gatherer seen gathers (λ items. written (map seen items))) (item.format old.mode) n gives eof
    (Ok whole) old new) where
  -- a collection with fewer items than were read, since something was repeated
  pub of_length_repeated : {e : E} → (count (seen' whole) ≡ n → ⊥) → gives (error_of kinds.OutOfRangeLength) e
      → Reads gives eof seen'
      (gathered_of_length hashed old.mode stands written single n (item.format old.mode)) (Err e) old new
  unfolding vector owned_content repeat
  of_length_repeated other given =
      let h = r.answer in
      let list : Reads gives eof (λ (vs : List V). vs) (vector n (item.format old.mode)) (Ok (map seen h.items)) old new
      = record { kept = r.kept; answer = Got-as (λ s k. (length-map h.items seen ∙ h.count_is, k)) h.got } in
      list_refused written hashed tells item n {shown = λ (vs : List V). vs} refl
      (code_means_nothing old.mode (subset_code single kinds.OutOfRangeLength)
      ((vector_codec n item).laws old.mode) (λ v k. k)
      (λ v k. other (sym (tells.long h.items whole h.gathered (subst single (sym k.0) k.1)) ∙ h.count_is))
      (kinds.OutOfRangeLength, refl, given) list)

  -- and one with as many
  pub of_length_read : count (seen' whole) ≡ n
      → Reads gives eof seen'
      (gathered_of_length hashed old.mode stands written single n (item.format old.mode)) (Ok whole) old new
  unfolding coding
  of_length_read same =
      let h = r.answer in
      let k = tells.kept h.items whole h.gathered (h.count_is ∙ sym same) in
      record {
        kept = r.kept;
        answer = Got-as
            (λ s e. record {
              code = map seen h.items;
              code_is = encoded_single old.mode single n (item.format old.mode) (map seen h.items) s
                  (length-map h.items seen ∙ h.count_is) e k.1;
              stands = Accepts-is old.mode.strict (gathering stands written) (map seen h.items) (seen' whole) k.0
                  (λ strict. (k.0, h.written strict));
            }) h.got;
      }
