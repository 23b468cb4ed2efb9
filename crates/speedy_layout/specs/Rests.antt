-- Texts and lists that are the rest of the bytes, with no length.
use Rattle.std.specs.Prelude.{◌≡◌, ℕ, ◌+◌, List, [], ◌∷◌, ◌++◌, ◌⊎◌, refl}
use Rattle.std.proofs.Common.{sym, ◌∙◌, ap, subst, inl, inr}
use Rattle.std.proofs.lemmas.Bool.{cases_eq}
use Rattle.std.proofs.lemmas.List.{append-nil}
use Rattle.speedy_base.specs.declared.error.ErrorKind.TheVariants as kinds
use Rattle.speedy_base.specs.Mode.{Mode}
use Rattle.speedy_layout.specs.Codes.{one_kind}
use Rattle.speedy_layout.specs.Format.{Format}
use Rattle.speedy_layout.specs.Lengths.{Counting}
use Rattle.speedy_layout.specs.Laws.{SameWritten}
use Rattle.speedy_layout.specs.Sequences.{not_asked}
use Rattle.speedy_layout.specs.Wholes.{Misfits, WholeLaws, WholeCodec}

-- The values of all lengths, without their length: the bytes end where the value does. No bytes are those of a value
-- of no length alone: so items that take no bytes are in no list.
unfoldable pub rest : {V : Type 0} → Mode → Counting V → Format V
rest f counting = record {
  encodes = λ v b.
      ((counting.of_length (counting.count v)).format f).encodes v b × (b ≡ [] → counting.count v ≡ 0);
  writes = λ v b.
      ((counting.of_length (counting.count v)).format f).writes v b × (b ≡ [] → counting.count v ≡ 0);
  names = λ kind. ((n : ℕ) × ((counting.of_length n).format f).names kind) ⊎ (kind ≡ kinds.OutOfRangeLength);
  refuses_writing = λ kind.
      ((n : ℕ) × ((counting.of_length n).format f).refuses_writing kind) ⊎ (kind ≡ kinds.OutOfRangeLength);
  malformed = λ _. ⊥;
  wrong_length = λ _. ⊥;
  asks = counting.asks f;
}

module _ {V : Type 0} (f : Mode) (counting : Counting V) where
  same_count : (v w : V) (b : List ℕ) → (rest f counting).encodes v b → (rest f counting).encodes w b
      → counting.count v ≡ counting.count w
  unfolding rest
  same_count v w [] h k = h.1 refl ∙ sym (k.1 refl)
  same_count v w (x ∷ b) h k =
      counting.ends f (counting.count v) (counting.count w) v w (x ∷ b) h.0 k.0 (λ some. absurd (cc))

  pub rest_laws : WholeLaws f.strict (rest f counting)
  unfolding rest
  rest_laws = record {
    one_value = λ v w b h k.
        let same = same_count v w b h k in
        let other = subst (λ n. ((counting.of_length n).format f).encodes w b) (sym same) k.0 in
        (((counting.of_length (counting.count v)).laws f).decodes v w b b [] [] h.0 other refl).0;
    tells = λ v w s t h k.
        elim (cases_eq (counting.count v) (counting.count w)) [
          | inl same ↦
              ((counting.of_length (counting.count v)).laws f).tells v w s t h.0
              (subst (λ n. ((counting.of_length n).format f).encodes w t) (sym same) k.0)
          | inr other ↦ inr (λ e. other (ap counting.count e))
        ];
    written_encodes = λ v b h. (((counting.of_length (counting.count v)).laws f).written_encodes v b h.0, h.1);
    written_alone = λ strict v b h.
        (((counting.of_length (counting.count v)).laws f).written_alone strict v b h.0, h.1);
    shortest = λ v b c h k. ((counting.of_length (counting.count v)).laws f).shortest v b c h.0 k.0;
    has_written = λ v b h.
        let laws = (counting.of_length (counting.count v)).laws f in
        let w = laws.has_written v b h.0 in (
          w.0,
          (
            w.1,
            λ none. h.1 (sym ((laws.decodes v v w.0 b b [] (laws.written_encodes v w.0 w.1) h.0
                (ap (λ s. s ++ b) none ∙ sym (append-nil b))).1) ∙ none),
          ),
        );
    one_written = λ unhashed v b c h k.
        let n = counting.count v in
        let inner = not_asked ((counting.of_length n).format f).asks.hashed (counting.asks f).hashed
        (counting.within f n).hashed unhashed in
        ((counting.of_length n).laws f).one_written inner v b c h.0 k.0;
    names_own = λ kind named. elim named [
      | inl h ↦ ((counting.of_length h.0).laws f).names_own kind h.1
      | inr h ↦ one_kind kinds.OutOfRangeLength tt kind h
    ];
    refuses_own = λ kind refused. elim refused [
      | inl h ↦ ((counting.of_length h.0).laws f).refuses_own kind h.1
      | inr h ↦ one_kind kinds.OutOfRangeLength tt kind h
    ];
  }

-- Bytes that end within the item that would be the next one. Within a text none do: all of its bytes are one item each.
pub record EndsInItem {V : Type 0} (f : Mode) (counting : Counting V) (bytes : List ℕ) : Type 0 where
  pub n : ℕ
  pub before : V
  pub prefix : List ℕ
  pub rest : List ℕ
  pub whole_is : bytes ≡ prefix ++ rest
  pub before_is : ((counting.of_length n).format f).encodes before prefix
  pub some : rest ≡ [] → ⊥
  pub after : V
  pub more : List ℕ
  pub after_is : ((counting.of_length (n + 1)).format f).encodes after (bytes ++ more)
  pub lacks : more ≡ [] → ⊥

-- what misfits the rest of the bytes
abbrev pub rest_misfits : {V : Type 0} → Mode → Counting V → Misfits
rest_misfits f counting = record { too_many = λ _. ⊥; too_few = EndsInItem f counting }

pub rest_written : {V : Type 0} (counting : Counting V) → SameWritten (λ f. rest f counting)
unfolding rest
rest_written counting f strict = record {
  too = λ v b h. (((counting.of_length (counting.count v)).same_written f strict).too v b h.0, h.1);
}

abbrev pub rest_codec : {V : Type 0} → Counting V → WholeCodec V
rest_codec counting = record {
  format = λ f. rest f counting;
  misfits = λ f. rest_misfits f counting;
  laws = λ f. rest_laws f counting;
  same_written = rest_written counting;
}
