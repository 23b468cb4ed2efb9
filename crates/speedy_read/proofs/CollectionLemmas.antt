-- Reads of items make reads of what they gather to.
use Rattle.std.specs.Prelude.{◌≡◌, ℕ, ◌+◌, ◌≤◌, ◌<◌, List, [], ◌∷◌, ◌++◌, length, map, Bool, true, false, IsTrue}
use Rattle.std.specs.Prelude.{Result, Ok, Err, IfOk, OnOk, MatchResult, is_err, IsErrAnd, ⊤, refl}
use Rattle.std.proofs.Common.{sym, ◌∙◌, ap, ap₂, subst, arith, inl, inr, map-id}
use Rattle.std.proofs.lemmas.Iterator.Adapters.{fact_from_collect, fact_from_extend, YieldsList-from_vec}
use Rattle.std.proofs.lemmas.Result.{IfOk-weaker}
use Rattle.std.proofs.lemmas.List.{map-append, append_assoc, append-nil, length-append, length-map}
use Rattle.std.specs.Iterator.{DrainsIf, Drains, Yields}
use Rattle.std.specs.declared.vec.IntoIter.{IntoIter}
use Rattle.std.specs.Vec.Iter.{into_iter_items, into_iter_len, into_iter_steps}
use Rattle.speedy_base.specs.declared.error.ErrorKind.TheVariants as kinds
use Rattle.speedy_base.specs.declared.error.Error.{Error}
use Rattle.speedy_base.specs.Error.{error_of, passed_on}
use Rattle.speedy_layout.specs.Format.{Format, Each}
use Rattle.speedy_layout.specs.Laws.{Laws, Codec}
use Rattle.speedy_layout.specs.Codes.{Codebook, ReadsWider, coding, Accepts-is, Accepts-demanded}
use Rattle.speedy_layout.specs.Sequences.{across, asks_after, asks_hashed}
use Rattle.speedy_layout.specs.Gathering.{gathering, items_of, hashed_items}
use Rattle.speedy_base.specs.Mode.{Mode}
use Rattle.speedy_read.specs.Sequences.{Composes, second_decides, refused_first}
use Rattle.speedy_layout.specs.Lists.{vector, vector_asks, vector_length, repeat, each_append}
use Rattle.speedy_layout.specs.Owned.{owned_content}
use Rattle.speedy_read.specs.Reading.{ReaderState, Kept, Undecodable, Reads}
use Rattle.speedy_read.specs.ReadingLemmas.{Kept-same, Got-nothing, Got-as, ReadSoFar, more_so_far}
use Rattle.speedy_read.specs.Codes.{code_refused}
use Rattle.speedy_read.specs.BehindCounts.{counted_code_composes}
use Rattle.speedy_read.specs.Collections.{Gatherer, gatherer, GotItems, NotWritten, Collects}
use Rattle.speedy_read.proofs.ListLemmas.{item_more, refused_item, refused_items}

-- from old to mid n items were read, which gather to the collection
pub record GatheredSoFar {T F V : Type 0} (g : Gatherer T F V) (L : Format V) (n : ℕ) (whole : F)
    (old mid : ReaderState) : Type 0 where
  pub kept : Kept old mid
  pub so_far : GotItems g L n whole old mid

pub length_pushed : {A : Type 0} (xs : List A) (x : A) (n : ℕ) → length xs ≡ n → length (xs ++ x ∷ []) ≡ n + 1
length_pushed xs x n l = let m = length-append xs (x ∷ []) in omega (arith, l)

-- where the items are refused, the collection is
pub items_refused : {T F V : Type 0} {g : Gatherer T F V} {L : Format V} {E : Type 0} {gives : Error → E → Type 0}
    {eof : E → Bool} {n : ℕ} {e : E} {result : Result F E} {old new : ReaderState} → IsErrAnd result (λ x. x ≡ e)
    → Reads gives eof (λ (vs : List V). vs) (vector n L) (Err e) old new → Collects g L n gives eof result old new
unfolding vector owned_content
items_refused {g = g} {L = L} {gives = gives} {eof = eof} {n = n} {e = e} {result = result} {old = old} {new = new}
    passed refused =
    subst (λ x. Collects g L n gives eof x old new) (passed_on result e passed)
    (record { kept = refused.kept; answer = elim refused.answer [ inl x ↦ inl x | inr x ↦ inr (inl x) ] })

module _ {T F V : Type 0} {g : Gatherer T F V} {L : Format V} {old : ReaderState} where
  pub none_gathered : {whole : F} → g.gathers [] whole → g.are_written [] → GatheredSoFar g L 0 whole old old
  none_gathered h k = record {
    kept = Kept-same;
    so_far = record { items = []; count_is = refl; got = Got-nothing refl; gathered = h; written = λ _. k };
  }

  read_so_far : {n : ℕ} {whole : F} {mid : ReaderState} (h : GatheredSoFar g L n whole old mid)
      → ReadSoFar (Each L.encodes (map g.seen h.so_far.items)) old mid
  read_so_far h = record { kept = h.kept; got = h.so_far.got }

  module _ {E : Type 0} {gives : Error → E → Type 0} {eof : E → Bool} {whole : F} {n : ℕ} {mid new : ReaderState}
      (h : GatheredSoFar g L n whole old mid) where
    -- an item more was read
    more_read : {x : T} → Reads gives eof g.seen L (Ok x) mid new
        → ReadSoFar (Each L.encodes (map g.seen (h.so_far.items ++ x ∷ []))) old new
    more_read {x = x} r =
        item_more L (map g.seen h.so_far.items) (read_so_far h) r (map-append g.seen h.so_far.items (x ∷ []))

    -- and added
    pub one_gathered : {x : T} {next : F} → Reads gives eof g.seen L (Ok x) mid new
        → g.gathers (h.so_far.items ++ x ∷ []) next
        → (IsTrue old.mode.strict → g.are_written (h.so_far.items ++ x ∷ []))
        → GatheredSoFar g L (n + 1) next old new
    one_gathered {x = x} r gathered written =
        let read = more_read r in
        record {
          kept = read.kept;
          so_far = record {
            items = h.so_far.items ++ x ∷ [];
            count_is = length_pushed h.so_far.items x n h.so_far.count_is;
            got = read.got;
            gathered = gathered;
            written = written;
          };
        }

    -- several items more were read, and added
    pub some_gathered : {A : Type 0} (items : A → List T) {some : A} (k : ℕ) {next : F}
        → Reads gives eof (λ x. map g.seen (items x)) (vector k L) (Ok some) mid new
        → g.gathers (h.so_far.items ++ items some) next
        → (IsTrue old.mode.strict → g.are_written (h.so_far.items ++ items some))
        → GatheredSoFar g L (n + k) next old new
    unfolding vector owned_content repeat
    some_gathered items {some = some} k r gathered written =
        let earlier = h.so_far.items in
        let read = more_so_far {more = Each L.encodes (map g.seen (earlier ++ items some))} (read_so_far h) r
        (λ s t first second.
        subst (λ (vs : List V). Each L.encodes vs (s ++ t)) (sym (map-append g.seen earlier (items some)))
        (each_append L.encodes (map g.seen earlier) (map g.seen (items some)) s t first second.1)) in
        let count : length (items some) ≡ k = sym (length-map (items some) g.seen) ∙ r.answer.prefix_is.0 in
        record {
          kept = read.kept;
          so_far = record {
            items = earlier ++ items some;
            count_is = length-append earlier (items some) ∙ ap₂ (λ (a b : ℕ). a + b) h.so_far.count_is count;
            got = read.got;
            gathered = gathered;
            written = written;
          };
        }

    -- an item is refused, since it is written of no collection behind the others
    pub item_not_written : {all : ℕ} {x : T} {next : F} {e : E} → n < all → IsTrue old.mode.strict
        → Reads gives eof g.seen L (Ok x) mid new → g.gathers (h.so_far.items ++ x ∷ []) next
        → (g.are_written (h.so_far.items ++ x ∷ []) → ⊥) → gives (error_of kinds.NotWrittenForm) e
        → Collects g L all gives eof (Err e) old new
    item_not_written {x = x} {next = next} less strict r gathered not_written given =
        let read = more_read r in
        record {
          kept = read.kept;
          answer = inr (inr (
            given,
            record {
              items = h.so_far.items ++ x ∷ [];
              whole = next;
              demanded = strict;
              at_most = let l = length_pushed h.so_far.items x n h.so_far.count_is in omega arith;
              ahead = record {
                prefix = read.got.prefix;
                rest = new.remaining;
                prefix_is = read.got.prefix_is;
                stands = read.got.taken;
                no_fault = read.got.no_fault;
              };
              gathered = gathered;
              not_written = not_written;
            },
          ));
        }

    -- where the next item is refused, the collection is
    pub next_refused : {strict : Bool} {least : ℕ} → Laws strict least L → {all : ℕ} {e : E} {result : Result F E}
        → n < all → IsErrAnd result (λ x. x ≡ e) → Reads gives eof g.seen L (Err e) mid new
        → Collects g L all gives eof result old new
    next_refused laws {all = all} less passed r =
        let l = length-map h.so_far.items g.seen in
        let m = h.so_far.count_is in
        items_refused passed (refused_item laws all (map g.seen h.so_far.items) (omega arith) (read_so_far h) refl r)

    -- and where several are
    pub some_refused : {strict : Bool} {least : ℕ} → Laws strict least L → {all : ℕ} (k : ℕ) {A : Type 0}
        {seen : A → List V} {e : E} {result : Result F E} → n + k ≤ all → IsErrAnd result (λ x. x ≡ e)
        → Reads gives eof seen (vector k L) (Err e) mid new → Collects g L all gives eof result old new
    some_refused laws {all = all} k within passed r =
        let l = length-map h.so_far.items g.seen in
        let m = h.so_far.count_is in
        items_refused passed (refused_items laws all k (map g.seen h.so_far.items) (omega arith) (read_so_far h) refl r)

-- what a call says that succeeded
pub on_success : {A E P : Type 0} (r : Result A E) → is_err r ≡ false → OnOk r P → P
on_success (Ok x) h p = p
on_success (Err e) h p = absurd (cc)

-- want of memory for an item
pub room_refused : {T F V : Type 0} {g : Gatherer T F V} {L : Format V} {E : Type 0} {gives : Error → E → Type 0}
    {eof : E → Bool} {old new : ReaderState} {e : E} (all : ℕ) → Kept old new → new.faults ≡ old.faults
    → gives (error_of kinds.OutOfMemory) e → Collects g L all gives eof (Err e) old new
room_refused all kept clean given = record { kept = kept; answer = inl (inl (given, inl refl, clean)) }

-- all items were gathered
pub all_gathered : {T F V : Type 0} {g : Gatherer T F V} {L : Format V} {E : Type 0} {gives : Error → E → Type 0}
    {eof : E → Bool} {n : ℕ} {whole : F} {old new : ReaderState} → GatheredSoFar g L n whole old new
    → Collects g L n gives eof (Ok whole) old new
all_gathered h = record { kept = h.kept; answer = h.so_far }

-- a vector of items that is collected gathers to what is said of all its items
pub collected : {T F E Z : Type 0} {gathers : F → Type 0} (iter : IntoIter T Z) (result : Result F E) (items : List T)
    (is_of : List T → F → Type 0) → ((whole : F) → is_of items whole → gathers whole) → into_iter_items iter ≡ items
    → into_iter_len iter ≡ length items
    → IfOk result (λ whole. (all : List T) × DrainsIf (into_iter_steps {X = T} {Z = Z}) ⊤ iter all × is_of all whole)
    → IfOk result gathers
collected iter result items is_of gathered rest count made =
    IfOk-weaker result _ _ gathered (fact_from_collect is_of result made (YieldsList-from_vec items rest count))

-- a collection that is extended by a vector of items has what is said of all of them
pub extended : {T E Z Q : Type 0} {is_of : IntoIter T Z → Type 0} {says : List T → Type 0} (items : List T)
    (result : Result (Unit {0}) E)
    → ((iter : IntoIter T Z) × (all : List T) × is_of iter × says all
    × MatchResult result (λ _. Drains (into_iter_steps {X = T} {Z = Z}) iter all)
    (λ _. (last : IntoIter T Z) × Yields (into_iter_steps {X = T} {Z = Z}) iter all last))
    → ((iter : IntoIter T Z) → is_of iter → (into_iter_items iter ≡ items) × (into_iter_len iter ≡ length items))
    → (says items → Q) → OnOk result Q
extended {says = says} items result ran of_vector gathered =
    fact_from_extend (λ x. x) result ran
    (λ iter is. let at = of_vector iter is in YieldsList-from_vec items at.0 at.1)
    (λ all same h. gathered (subst says (sym (map-id all) ∙ same) h))

-- ---- what was gathered is a value of a code

-- what the items gather to is what the code says of what is seen of them
pub record IsCodeOf {T F V S : Type 0} (g : Gatherer T F V) (c : Codebook (List V) S) (seen' : F → S) : Type 0 where
  pub meant : (items : List T) (whole : F) → g.gathers items whole → c.means (map g.seen items) (seen' whole)
  pub chosen : (items : List T) (whole : F) → g.gathers items whole → g.are_written items
      → c.chosen (map g.seen items) (seen' whole)
  pub first_chosen : (items : List T) (more : List V) (s : S) → c.chosen (map g.seen items ++ more) s
      → g.are_written items

-- where more items are encoded than others, which stand at the same place, they begin with these
each_begins : {V : Type 0} {strict : Bool} {least : ℕ} {L : Format V} → Laws strict least L
    → (vs ws : List V) (s t r q : List ℕ) → length vs ≤ length ws → Each L.encodes vs s → Each L.encodes ws t
    → s ++ r ≡ t ++ q → (more : List V) × (ws ≡ vs ++ more)
each_begins laws [] ws s t r q l h k e = (ws, refl)
each_begins laws (v ∷ vs) [] s t r q l h k e = absurd (omega arith)
each_begins laws (v ∷ vs) (w ∷ ws) s t r q l h k e =
    let joined = across s t r q h.prefix h.suffix k.prefix k.suffix h.whole_is k.whole_is e in
    let first = laws.decodes v w h.prefix k.prefix (h.suffix ++ r) (k.suffix ++ q) h.first_is k.first_is joined in
    let rest = each_begins laws vs ws h.suffix k.suffix r q (omega arith) h.second_is k.second_is first.2 in
    (rest.0, let a = first.0 in let b = rest.1 in (cc))

-- items that are written of no collection stand where the canonical encoding is demanded
module _ {T F V S : Type 0} {g : Gatherer T F V} (c : Codebook (List V) S)
    (first : (items : List T) (more : List V) (s : S) → c.chosen (map g.seen items ++ more) s → g.are_written items)
    {L : Format V} {n : ℕ} {old : ReaderState} {new : ReaderState} (h : NotWritten g L n old new) (value : S)
    (meant : c.means (map g.seen h.items) value) where
  wider : ReadsWider c
  wider = record {
    code = map g.seen h.items;
    value = value;
    meant = meant;
    not_chosen = λ k. h.not_written (first h.items [] value
        (subst (λ (vs : List V). c.chosen vs value) (sym (append-nil (map g.seen h.items))) k));
  }

  -- what is encoded where such items stand is written of no collection
  none_chosen : {strict : Bool} {least : ℕ} → Laws strict least L
      → (vs : List V) (s : S) (prefix rest bytes more : List ℕ) → length vs ≡ n → Each L.encodes vs prefix
      → bytes ++ more ≡ prefix ++ rest → bytes ≡ h.ahead.prefix ++ h.ahead.rest → c.chosen vs s → ⊥
  none_chosen laws vs s prefix rest bytes more count encoded is_whole stands chosen =
      let fewer : length (map g.seen h.items) ≤ length vs =
      let l = length-map h.items g.seen in
      let m = h.at_most in
      omega arith in
      let joined = sym (append_assoc h.ahead.prefix h.ahead.rest more) ∙ (ap (λ x. x ++ more) (sym stands) ∙ is_whole)
      in
      let begins = each_begins laws (map g.seen h.items) vs h.ahead.prefix prefix (h.ahead.rest ++ more) rest fewer
      h.ahead.prefix_is encoded joined in
      h.not_written (first h.items begins.0 s (subst (λ (vs : List V). c.chosen vs s) begins.1 chosen))

  module _ {E : Type 0} {gives : Error → E → Type 0} {eof : E → Bool} {least : ℕ} {e : E} (M : Format (List V))
      (laws : Laws old.mode.strict least L)
      (items_of : (vs : List V) (s : List ℕ) → M.encodes vs s → (length vs ≡ n) × Each L.encodes vs s)
      (none_wrong : (bytes : List ℕ) → M.wrong_length bytes → ⊥)
      (given : gives (error_of kinds.NotWrittenForm) e) where
    not_written_undecodable : IsTrue old.fixed.tells → Undecodable gives eof (coding old.mode c M) e old.remaining
    unfolding coding
    not_written_undecodable tells = record {
      no_prefix = λ v prefix rest whole k.
          let is = items_of k.code prefix k.code_is in
          none_chosen laws k.code v prefix rest old.remaining [] is.0 is.1 (append-nil old.remaining ∙ whole)
          (h.ahead.stands tells) (Accepts-demanded old.mode.strict c k.code v h.demanded k.stands);
      too_short = λ v more k.
          let is = items_of k.code (old.remaining ++ more) k.code_is in
          absurd (none_chosen laws k.code v (old.remaining ++ more) [] old.remaining more is.0 is.1
          (sym (append-nil (old.remaining ++ more))) (h.ahead.stands tells)
          (Accepts-demanded old.mode.strict c k.code v h.demanded k.stands));
      malformed = λ _. (kinds.NotWrittenForm, inr (inr (h.demanded, refl, wider)), given);
      wrong_length = λ wrong. absurd (none_wrong old.remaining wrong);
    }

    -- so no value of a code is read, whose codes are lists of such items
    pub not_written_refused : {seen' : F → S} → Kept old new
        → Reads gives eof seen' (coding old.mode c M) (Err e) old new
    unfolding coding
    not_written_refused kept = record {
      kept = kept;
      answer = inr (record {
        no_fault = h.ahead.no_fault;
        kind = inr (kinds.NotWrittenForm, inl (inr (inr (h.demanded, refl, wider))), given);
        because = λ told. not_written_undecodable told.tells;
      });
    }

vector_items : {V : Type 0} (L : Format V) (n : ℕ) (vs : List V) (s : List ℕ) → (vector n L).encodes vs s
    → (length vs ≡ n) × Each L.encodes vs s
unfolding vector owned_content repeat
vector_items L n vs s h = h

-- so items that are read and gathered are a value of the code that is read
pub collected_read : {T F V S : Type 0} {g : Gatherer T F V} {c : Codebook (List V) S} {seen' : F → S} {L : Format V}
    {n : ℕ} {E : Type 0} {gives : Error → E → Type 0} {eof : E → Bool} {result : Result F E} {old new : ReaderState}
    {least : ℕ} → Laws old.mode.strict least L → IsCodeOf g c seen'
    → Collects g L n gives eof result old new
    → Reads gives eof seen' (coding old.mode c (vector n L)) result old new
unfolding coding vector owned_content repeat
collected_read {g = g} {c = c} {seen' = seen'} {L = L} {n = n} {result = Ok whole} {old = old} laws is r =
    let h = r.answer in
    record {
      kept = r.kept;
      answer = Got-as
          (λ s k. record {
            code = map g.seen h.items;
            code_is = (length-map h.items g.seen ∙ h.count_is, k);
            stands = Accepts-is old.mode.strict c (map g.seen h.items) (seen' whole)
                (is.meant h.items whole h.gathered) (λ strict. is.chosen h.items whole h.gathered (h.written strict));
          }) h.got;
    }
collected_read {V = V} {g = g} {c = c} {seen' = seen'} {L = L} {n = n} {gives = gives} {eof = eof} {result = Err e}
    {old = old} {new = new} laws is r =
    elim r.answer [
      | inl x ↦ record { kept = r.kept; answer = inl x }
      | inr x ↦ elim x [
        | inl y ↦
            let items : Reads gives eof (λ (vs : List V). vs) (vector n L) (Err e) old new = record {
              kept = r.kept;
              answer = inr y;
            } in
            code_refused old.mode c refl items
        | inr y ↦
            not_written_refused c is.first_chosen y.1 (seen' y.1.whole)
            (is.meant y.1.items y.1.whole y.1.gathered) (vector n L) laws (vector_items L n) (λ _ wrong. wrong) y.0
            r.kept
      ]
    ]

-- the items of a thing that has no order of its own are read alike
gathered_composes : {V S : Type 0} (hashed : Bool) (count : Format ℕ) (L : Format V) (mode : Mode)
    (c : Codebook (List V) S) → Composes count (λ n. coding mode c (vector n L))
    (coding mode c (items_of hashed count L)) (λ n s. s)
unfolding coding hashed_items
gathered_composes false count L mode c = counted_code_composes mode c count _ (vector_asks L) (λ n. vector_length n L)
gathered_composes true count L mode c =
    let same = counted_code_composes mode c count _ (vector_asks L) (λ n. vector_length n L) in
    record {
      joins = same.joins;
      splits = same.splits;
      names_first = same.names_first;
      names_second = same.names_second;
      malformed = same.malformed;
      wrong_length = same.wrong_length;
      asks_first = asks_after same.asks_first asks_hashed;
      asks_second = λ n. asks_after (same.asks_second n) asks_hashed;
    }

-- The number of items and then the items are read as what they gather to. The items stand for that, and the first ones
-- of canonical items are canonical.
pub collection_read : {T F V S : Type 0} {seen : T → V} {gathers : List T → F → Type 0}
    {written : List V → Type 0} {seen' : F → S} {n : ℕ} {E : Type 0} {gives : Error → E → Type 0} {eof : E → Bool}
    {result : Result F E} {old mid new : ReaderState} (hashed : Bool) (count : Codec ℕ) (item : Codec V)
    (stands : List V → S → Type 0)
    → ((items : List T) (whole : F) → gathers items whole → stands (map seen items) (seen' whole))
    → ((xs ys : List V) → written (xs ++ ys) → written xs)
    → Reads gives eof (λ x. x) (count.format old.mode) (Ok n) old mid
    → Collects (gatherer seen gathers (λ items. written (map seen items))) (item.format mid.mode) n gives eof result mid
    new
    → Reads gives eof seen' (coding old.mode (gathering stands written)
    (items_of hashed (count.format old.mode) (item.format old.mode))) result old new
collection_read {T = T} {F = F} {V = V} {S = S} {seen = seen} {gathers = gathers} {written = written}
    {seen' = seen'} {n = n} {gives = gives} {eof = eof} {result = result} {old = old} {mid = mid} {new = new}
    hashed count item stands stands_for first number r =
    let c : Codebook (List V) S = gathering stands written in
    let is : IsCodeOf (gatherer seen gathers (λ items. written (map seen items))) c seen' = record {
      meant = stands_for;
      chosen = λ items whole h w. (stands_for items whole h, w);
      first_chosen = λ items more s h. first (map seen items) more h.1;
    } in
    second_decides (gathered_composes hashed _ _ old.mode c) (count.laws old.mode) number
    (subst (λ (e : Mode). Reads gives eof seen' (coding e c (vector n (item.format e))) result mid new)
    number.kept.mode (collected_read (item.laws mid.mode) is r)) (λ _. refl)

-- and where the number is refused, so is the collection
pub collection_refused : {V S : Type 0} (c : Codebook (List V) S) (L : Format V) {count : Format ℕ} {E : Type 0}
    {gives : Error → E → Type 0} {eof : E → Bool} {A B : Type 0} {seen : A → ℕ} {seen' : B → S} {e : E}
    {result : Result B E} {old new : ReaderState} (hashed : Bool) → IsErrAnd result (λ x. x ≡ e)
    → Reads gives eof seen count (Err e) old new
    → Reads gives eof seen' (coding old.mode c (items_of hashed count L)) result old new
collection_refused c L {count = count} {old = old} hashed passed r =
    refused_first (gathered_composes hashed count L old.mode c) passed r
