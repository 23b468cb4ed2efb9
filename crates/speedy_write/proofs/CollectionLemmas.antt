-- The items of a collection are written one after the other, and make a write of the collection.
use Rattle.std.specs.Prelude.{◌≡◌, ℕ, List, [], ◌∷◌, ◌++◌, length, map, Bool, true, false, Option, Some, None, Result}
use Rattle.std.specs.Prelude.{Ok, Err, MatchResult, IsErrAnd, refl}
use Rattle.std.proofs.Common.{sym, ◌∙◌, ap, subst}
use Rattle.std.proofs.iter.Next.{Yields-more}
use Rattle.std.proofs.iter.Yields.{gives_left, gives_Drains, listed}
use Rattle.std.proofs.lemmas.List.{length-map}
use Rattle.std.specs.Iterator.{Yields, YieldsThen, YieldsFirst, Drains, AlwaysYields, Count, IsFinite, MakesProgress}
use Rattle.std.specs.Map.Iter.{TakesFirst, deref, deref_pair}
use Rattle.speedy_base.specs.declared.error.ErrorKind.{ErrorKind}
use Rattle.speedy_base.specs.declared.error.Error.{Error}
use Rattle.speedy_base.specs.Mode.{Mode}
use Rattle.speedy_layout.specs.Codes.{coding}
use Rattle.speedy_layout.specs.Format.{Format}
use Rattle.speedy_layout.specs.GatheredLemmas.{gathered_writes, gathered_form, gathered_form_length}
use Rattle.speedy_layout.specs.Gathering.{IsGathering, hashed_items, items_of, gathered}
use Rattle.speedy_layout.specs.Laws.{Laws, Codec}
use Rattle.speedy_layout.specs.Lists.{repeat, vector, prefixed_list}
use Rattle.speedy_layout.specs.Maps.{seen_pair}
use Rattle.speedy_layout.specs.Owned.{owned_content, borrowed_content}
use Rattle.speedy_layout.specs.Prefixed.{Numbers}
use Rattle.speedy_layout.specs.Sequences.{sequence}
use Rattle.speedy_layout.specs.Tuples.{pair, pair_codec}
use Rattle.speedy_write.specs.Collections.{TakesSome, WritesItems}
use Rattle.speedy_write.specs.Sequences.{Writes-as}
use Rattle.speedy_base.specs.Error.{passed_on}
use Rattle.speedy_write.specs.Writing.{WriterState, Writes, WritesEach}
use Rattle.speedy_write.proofs.ListLemmas.{first_items_refused, next_refused}

-- ---- item by item

-- an iterator gives its next item, or none
pub next_alone : {S A : Type 0} {can : S → Type 0} {left : S → Count} {steps : S → Option A → S → Type 0} {s t : S}
    {r : Option A} → IsFinite (left s) → steps s r t → MakesProgress can left s r t
    → TakesSome can left steps [] r s t
next_alone {s = s} finite step goes = record { gave = (s, refl, step); goes_on = goes.on finite }

-- items, and more behind them
Yields-append : {S A : Type 0} (steps : S → Option A → S → Type 0) (s : S) (xs ys : List A) (t u : S)
    → Yields steps s xs t → Yields steps t ys u → Yields steps s (xs ++ ys) u
Yields-append steps s [] ys t u same more = subst (λ j. Yields steps j ys u) (sym same) more
Yields-append steps s (x ∷ xs) ys t u first more =
    (first.0, first.1, Yields-append steps first.0 xs ys t u first.2 more)

-- items, and then others that were put at once, and the next one
pub Yields-put : {S A : Type 0} {can : S → Type 0} {left : S → Count} {steps : S → Option A → S → Type 0}
    (s : S) {t u : S} {r : Option A} (xs : List A) {put : List A} → Yields steps s xs t
    → TakesSome can left steps put r t u → YieldsThen steps s (xs ++ put) r u
Yields-put {steps = steps} s {t = t} xs {put = put} first some =
    (some.gave.0, Yields-append steps s xs put t some.gave.0 first some.gave.1, some.gave.2)

module _ {E U S A V : Type 0} {gives : Error → E → Type 0} {becomes : U → S → Type 0}
    {steps : S → Option A → S → Type 0} {seen : A → V} {F : Mode → Format V} {items : U} (it : S) (walked : List A)
    (now next : S) (it_is : becomes items it) (walk : Yields steps it walked now) where
  -- no item is left
  pub all_items_written : {old new : WriterState} {appended : List ℕ → Type 0} → steps now None next
      → WritesEach gives F seen walked (Ok tt) old new appended
      → WritesItems becomes steps seen gives F items (Ok tt) old new appended
  all_items_written end w = record {
    iterator = it;
    iterator_is = it_is;
    walked = walked;
    are_walked = (next, (now, walk, end));
    writes = w;
  }

  -- the next one is refused
  pub next_item_refused : {least : ℕ} {e : E} {result : Result (Unit {0}) E} {old mid new : WriterState}
      {prefix suffix whole : List ℕ → Type 0} (x : A) → ((a b : List ℕ) → prefix a → suffix b → whole (a ++ b))
      → ((mode : Mode) → Laws mode.strict least (F mode))
      → IsErrAnd result (λ r. r ≡ e) → steps now (Some x) next → WritesEach gives F seen walked (Ok tt) old mid prefix
      → Writes gives F (seen x) (Err e) mid new suffix
      → WritesItems becomes steps seen gives F items result old new whole
  next_item_refused {e = e} {result = result} {old = old} {new = new} {whole = whole} x join laws passed step h w =
      subst (λ (r : Result (Unit {0}) E). WritesItems becomes steps seen gives F items r old new whole)
      (passed_on result e passed) (record {
        iterator = it;
        iterator_is = it_is;
        walked = walked ++ x ∷ [];
        are_walked = (next, Yields-more steps it walked now x next walk step);
        writes = next_refused join seen walked x laws refl h w [];
      })

-- ---- the items that were walked, among all

module _ {E S A V : Type 0} {gives : Error → E → Type 0} {steps : S → Option A → S → Type 0} {seen : A → V}
    {F : Mode → Format V} {items : S} {shown : List V} {old new : WriterState} {appended : List ℕ → Type 0} where
  all_shown : (result : Result (Unit {0}) E) → AlwaysYields steps seen items shown
      → WritesItems (λ s r. r ≡ s) steps seen gives F items result old new appended
      → Writes gives (λ mode. repeat (length shown) (F mode)) shown result old new appended
  all_shown result always w =
      by result (subst (λ s. AlwaysYields steps seen s shown) (sym w.iterator_is) always) w.writes w.are_walked where
        by : (result : Result (Unit {0}) E) → AlwaysYields steps seen w.iterator shown
            → WritesEach gives F seen w.walked result old new appended
            → MatchResult result (λ _. Drains steps w.iterator w.walked)
            (λ _. (rest : S) × Yields steps w.iterator w.walked rest)
            → Writes gives (λ mode. repeat (length shown) (F mode)) shown result old new appended
        by (Ok done) always written walked =
            let same = gives_Drains steps seen w.walked shown w.iterator always walked in
            subst
            (λ (vs : List V). Writes gives (λ mode. repeat (length vs) (F mode)) vs (Ok done) old new appended)
            same
            (subst
            (λ (n : ℕ). Writes gives (λ mode. repeat n (F mode)) (map seen w.walked) (Ok done) old new appended)
            (sym (length-map w.walked seen)) written)
        by (Err e) always written walked =
            let left = gives_left steps seen w.walked shown w.iterator walked.0 always walked.1 in
            subst
            (λ (vs : List V). Writes gives (λ mode. repeat (length vs) (F mode)) vs (Err e) old new appended)
            (sym left.1)
            (first_items_refused F (length w.walked) (map seen w.walked) left.0 (length-map w.walked seen) written)

  -- an iterator that always gives the same items is written as `count` of them
  pub shown_items_written : {count : ℕ} {result : Result (Unit {0}) E} → count ≡ length shown
      → AlwaysYields steps seen items shown
      → WritesItems (λ s r. r ≡ s) steps seen gives F items result old new appended
      → Writes gives (λ mode. repeat count (F mode)) shown result old new appended
  shown_items_written {result = result} same always w =
      subst (λ (n : ℕ). Writes gives (λ mode. repeat n (F mode)) shown result old new appended) (sym same)
      (all_shown result always w)

-- an iterator that shows what is left always gives it
pub shown_in_order : {A X V : Type 0} {s xs : List X} (shows : A → X) (seen : X → V) → s ≡ xs
    → AlwaysYields (TakesFirst shows) (λ a. seen (shows a)) s (map seen xs)
shown_in_order {xs = xs} shows seen same =
    subst (λ l. AlwaysYields (TakesFirst shows) (λ a. seen (shows a)) l (map seen xs)) (sym same)
    (listed (TakesFirst shows) (λ a. seen (shows a)) (map seen) (λ s t h. ap (λ l. length (map seen l)) h.0)
    (λ s x t h. ap (map seen) h) xs)

-- and so does one whose items are shown by what it has left
pub left_in_order : {S A V : Type 0} (left : S → List A) (seen : A → V) {s : S} {items : List A} → left s ≡ items
    → AlwaysYields (YieldsFirst left) seen s (map seen items)
left_in_order left seen {s = s} same =
    subst (λ xs. AlwaysYields (YieldsFirst left) seen s (map seen xs)) same
    (listed (YieldsFirst left) seen (λ t. map seen (left t)) (λ s t h. ap (λ xs. length (map seen xs)) h.0)
    (λ s x t h. ap (map seen) h) s)

-- ---- the collection

items_of_refuses : {X : Type 0} (hashed : Bool) (count : Format ℕ) (L : Format X)
    → (items_of hashed count L).refuses_writing ≡ (prefixed_list count L).refuses_writing
unfolding hashed_items
items_of_refuses false count L = refl
items_of_refuses true count L = refl

module _ {E : Type 0} {gives : Error → E → Type 0} {result : Result (Unit {0}) E} {old new : WriterState}
    {appended : List ℕ → Type 0} (count : Mode → Format ℕ) where
  -- lent items are written as the items
  lent_items : {X : Type 0} {shown : List X} (F : Mode → Format X)
      → Writes gives (λ f. prefixed_list (count f) (borrowed_content (F f))) shown result old new appended
      → Writes gives (λ f. prefixed_list (count f) (F f)) shown result old new appended
  unfolding sequence vector owned_content repeat borrowed_content
  lent_items F w = Writes-as (λ _ k. k) (λ _ h. h) (λ b h. (b, h, refl)) (λ b h. (b, h)) w

  -- and so are pairs of lent parts
  lent_pairs : {K V : Type 0} {shown : List (K × V)} (F : Mode → Format K) (G : Mode → Format V)
      → Writes gives (λ f. prefixed_list (count f) (pair (borrowed_content (F f)) (borrowed_content (G f)))) shown
      result
      old new appended
      → Writes gives (λ f. prefixed_list (count f) (pair (F f) (G f))) shown result old new appended
  unfolding sequence vector owned_content repeat borrowed_content
  lent_pairs F G w = Writes-as (λ _ k. k) (λ _ h. h) (λ b h. (b, h, refl)) (λ b h. (b, h)) w

module _ {E S : Type 0} {gives : Error → E → Type 0} {hashed : Bool} {whole : S} {result : Result (Unit {0}) E}
    {old new : WriterState} {appended : List ℕ → Type 0} (numbers : Numbers) where
  -- a form of a collection is written as the collection
  form_written_as : {X : Type 0} {stands : List X → S → Type 0} {are_written : List X → Type 0} {shown : List X}
      (item : Codec X) → IsGathering hashed stands are_written → stands shown whole × are_written shown
      → Writes gives (λ f. prefixed_list (numbers.codec.format f) (item.format f)) shown result old new appended
      → Writes gives (λ f. gathered hashed f (numbers.codec.format f) stands are_written (item.format f)) whole result
      old new appended
  unfolding coding
  form_written_as {stands = stands} {are_written = are_written} {shown = shown} item is form w =
      let f = old.mode in
      let count = numbers.codec.format f in
      let laws = numbers.codec.laws f in
      let smaller = numbers.smaller f in
      let refuses = items_of_refuses hashed count (item.format f) in
      Writes-as (λ kind k. subst (λ (kinds : ErrorKind → Type 0). kinds kind) (sym refuses) k)
      (λ b h. gathered_writes hashed f count stands are_written (item.format f) shown whole b h form.0 form.1)
      (λ b h. gathered_form_length f laws smaller (item.laws f) is whole b h shown form.0 form.1)
      (λ b h. gathered_form f laws smaller (item.laws f) is whole b h shown form.0 form.1) w

  -- The lent items of a set, which an iterator shows in their order, where they are a form of it.
  pub set_written : {T X : Type 0} {stands : List X → S → Type 0} {are_written : List X → Type 0} {items rest : List T}
      {count : ℕ} (item : Codec X) (seen : T → X) → IsGathering hashed stands are_written
      → stands (map seen items) whole × are_written (map seen items) → count ≡ length items → rest ≡ items
      → ((shown : List X) → count ≡ length shown → AlwaysYields (TakesFirst deref) (λ b. seen (deref b)) rest shown
      → Writes gives (λ f. prefixed_list (numbers.codec.format f) (borrowed_content (item.format f))) shown result old
      new appended)
      → Writes gives (λ f. gathered hashed f (numbers.codec.format f) stands are_written (item.format f)) whole result
      old new appended
  set_written {items = items} item seen is form count same writes =
      form_written_as item is form (lent_items numbers.codec.format item.format
      (writes (map seen items) (count ∙ sym (length-map items seen)) (shown_in_order deref seen same)))

  -- and the lent pairs of a map
  pub map_written : {J U K V : Type 0} {stands : List (K × V) → S → Type 0} {are_written : List (K × V) → Type 0}
      {entries rest : List (J × U)} {count : ℕ} (key : Codec K) (value : Codec V)
      (key_seen : J → K) (value_seen : U → V) → IsGathering hashed stands are_written
      → let seen = seen_pair key_seen value_seen in
      stands (map seen entries) whole × are_written (map seen entries) → count ≡ length entries → rest ≡ entries
      → ((shown : List (K × V)) → count ≡ length shown
      → AlwaysYields (TakesFirst deref_pair) (λ p. seen (deref_pair p)) rest shown
      → Writes gives (λ f. prefixed_list (numbers.codec.format f)
      (pair (borrowed_content (key.format f)) (borrowed_content (value.format f)))) shown result old new appended)
      → Writes gives (λ f. gathered hashed f (numbers.codec.format f) stands are_written
      (pair (key.format f) (value.format f))) whole result old new appended
  map_written {entries = entries} key value key_seen value_seen is form count same writes =
      let seen = seen_pair key_seen value_seen in
      form_written_as (pair_codec key value) is form (lent_pairs numbers.codec.format key.format value.format
      (writes (map seen entries) (count ∙ sym (length-map entries seen)) (shown_in_order deref_pair seen same)))
