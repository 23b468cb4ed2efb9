-- Writes of texts and of items make writes of the rest of the bytes.
use Rattle.std.specs.Prelude.{◌≡◌, ℕ, suc, List, [], ◌∷◌, ◌++◌, length, map, Bool, Result, Err, refl}
use Rattle.std.proofs.Common.{sym, ◌∙◌, ap, subst, inl, inr}
use Rattle.std.proofs.lemmas.List.{append-nil, length-map}
use Rattle.speedy_base.specs.declared.error.ErrorKind.TheVariants as kinds
use Rattle.speedy_base.specs.declared.error.Error.{Error}
use Rattle.speedy_base.specs.Error.{error_of}
use Rattle.speedy_base.specs.Mode.{Mode}
use Rattle.speedy_layout.specs.Codecs.{Codec}
use Rattle.speedy_layout.specs.Codes.{coding}
use Rattle.speedy_layout.specs.Format.{Format, Each}
use Rattle.speedy_layout.specs.Laws.{Laws}
use Rattle.speedy_layout.specs.Lengths.{Counting, list_counting, borrowed_counting}
use Rattle.speedy_layout.specs.Lists.{repeat, vector, each_as}
use Rattle.speedy_layout.specs.Owned.{borrowed_content, owned_content}
use Rattle.speedy_layout.specs.Rests.{rest}
use Rattle.speedy_layout.specs.Texts.{raw_bytes, text_of_length}
use Rattle.speedy_write.specs.Sequences.{Kept-same, Writes-as}
use Rattle.speedy_write.specs.Wholes.{TakesNone, TakesBytes}
use Rattle.speedy_write.specs.Writing.{WriterState, Writes, WritesEach}

-- ---- texts

-- a text is as long as the bytes that encode it
pub text_bytewise : (f : Mode) (n : ℕ) (v bytes : List ℕ) → (text_of_length f n).encodes v bytes → length bytes ≡ n
unfolding text_of_length owned_content coding raw_bytes
text_bytewise f n v bytes h = h.code_is.1

pub borrowed_bytewise : (f : Mode) (n : ℕ) (v bytes : List ℕ) → (borrowed_content (text_of_length f n)).encodes v bytes
    → length bytes ≡ n
unfolding borrowed_content
borrowed_bytewise f n v bytes h = text_bytewise f n v bytes h

-- a value that is as long as its bytes is written as the rest of them
pub bytes_written : {E V : Type 0} {gives : Error → E → Type 0} {v : V} {result : Result (Unit {0}) E}
    {old new : WriterState} {appended : List ℕ → Type 0} (counting : Counting V)
    → ((f : Mode) (n : ℕ) (v : V) (bytes : List ℕ) → ((counting.of_length n).format f).encodes v bytes
    → length bytes ≡ n)
    → Writes gives (counting.of_length (counting.count v)).format v result old new appended
    → Writes gives (λ f. rest f counting) v result old new appended
unfolding rest
bytes_written {v = v} {old = old} counting bytewise w =
    let f = old.mode in
    let own = counting.of_length (counting.count v) in
    Writes-as (λ kind h. inl (counting.count v, h))
    (λ b h. (h, λ none. sym (bytewise f (counting.count v) v b ((own.laws f).written_encodes v b h)) ∙ ap length none))
    (λ b h. (b, h.0, refl)) (λ b h. (b, h.0)) w

-- ---- items

both_none : (s t : List ℕ) → s ++ t ≡ [] → s ≡ []
both_none [] t e = refl
both_none (b ∷ s) t e = absurd (cc)

-- no bytes are those of no item
none_written : {A V : Type 0} (seen : A → V) (F : Format V) (items : List A) (b : List ℕ) → TakesBytes seen F items
    → Each F.writes (map seen items) b → b ≡ [] → length (map seen items) ≡ 0
none_written seen F [] b takes h none = refl
none_written seen F (x ∷ xs) b takes h none =
    absurd (takes (subst (F.writes (seen x)) (both_none h.prefix h.suffix (sym h.whole_is ∙ none)) h.first_is))

-- items are written as the rest of the bytes
pub items_written : {E A V : Type 0} {gives : Error → E → Type 0} (seen : A → V) (item : Codec V) (items : List A)
    {result : Result (Unit {0}) E} {old new : WriterState} {appended : List ℕ → Type 0}
    → TakesBytes seen (item.format old.mode) items
    → WritesEach gives item.format seen items result old new appended
    → Writes gives (λ f. rest f (list_counting item)) (map seen items) result old new appended
unfolding rest vector owned_content repeat
items_written seen item items {old = old} takes w =
    Writes-as (λ kind h. inl (0, h))
    (λ b h. ((refl, h.1), none_written seen (item.format old.mode) items b takes h.1))
    (λ b h. (b, (length-map items seen, h.0.1), refl)) (λ b h. (b, (length-map items seen, h.0.1))) w

module _ {V : Type 0} {strict : Bool} {least : ℕ} {F : Format V} (laws : Laws strict least F) where
  -- where one item takes no byte, none does
  takes_none : (v : V) → F.encodes v [] → (ws : List V) (t : List ℕ) → Each F.encodes ws t → t ≡ []
  takes_none v h [] t k = k
  takes_none v h (w ∷ ws) t k =
      let same = laws.decodes v w [] k.prefix k.prefix [] h k.first_is (sym (append-nil k.prefix)) in
      k.whole_is ∙ (ap (λ s. s ++ k.suffix) (sym same.1) ∙ takes_none v h ws k.suffix k.second_is)

-- items that take no byte are refused
pub items_refused : {E A V : Type 0} {gives : Error → E → Type 0} (seen : A → V) (item : Codec V) (items : List A)
    {e : E} {old new : WriterState} {appended : List ℕ → Type 0} → TakesNone seen (item.format old.mode) items
    → gives (error_of kinds.OutOfRangeLength) e → new ≡ old → appended []
    → Writes gives (λ f. rest f (list_counting item)) (map seen items) (Err e) old new appended
unfolding rest vector owned_content repeat
items_refused seen item [] writes given same nothing = absurd writes
items_refused {gives = gives} seen item (x ∷ xs) {e = e} {old = old} {appended = appended} writes given same nothing =
    subst (λ (s : WriterState). Writes gives (λ f. rest f (list_counting item)) (map seen (x ∷ xs)) (Err e) old s
    appended) (sym same)
    (record {
      kept = Kept-same old;
      answer = record {
        beginning = λ b h. absurd (none b (each_as laws.written_encodes (map seen (x ∷ xs)) b h.0.1) h.1);
        appends = ([], nothing);
        because = inr (record {
          no_fault = refl;
          no_fit = λ b h fit. none b (each_as laws.written_encodes (map seen (x ∷ xs)) b h.0.1) h.1;
          no_encoding = λ unbound b h. none b h.0.1 h.1;
          kind = inr (inl given);
        });
      };
    }) where
      laws : Laws old.mode.strict item.least (item.format old.mode)
      laws = item.laws old.mode

      none : (b : List ℕ) → Each (item.format old.mode).encodes (map seen (x ∷ xs)) b
          → (b ≡ [] → length (map seen (x ∷ xs)) ≡ 0) → ⊥
      none b h some =
          let many : suc (length (map seen xs)) ≡ 0 =
          some (takes_none laws (seen x) (laws.written_encodes (seen x) [] writes) (map seen (x ∷ xs)) b h) in
          absurd (cc)

-- and written alike where they are borrowed
pub borrowed_written : {E V : Type 0} {gives : Error → E → Type 0} (item : Codec V) {vs : List V}
    {result : Result (Unit {0}) E} {old new : WriterState} {appended : List ℕ → Type 0}
    → Writes gives (λ f. rest f (list_counting item)) vs result old new appended
    → Writes gives (λ f. rest f (borrowed_counting (list_counting item))) vs result old new appended
unfolding rest borrowed_content
borrowed_written item w = Writes-as (λ kind h. h) (λ b h. h) (λ b h. (b, h, refl)) (λ b h. (b, h)) w
