-- Reads of items, one after another.
use Rattle.std.specs.Prelude.{map, ◌≡◌, ℕ, zero, suc, ◌+◌, ◌*◌, ◌-◌, ◌^◌, ◌<◌, ◌≤◌, List, [], ◌∷◌, ◌++◌, length}
use Rattle.std.specs.Prelude.{Bool, IsTrue, Result, Ok, Err, IsErrAnd, refl}
use Rattle.std.proofs.Common.{sym, ◌∙◌, ap, subst, arith, inl, inr}
use Rattle.std.proofs.lemmas.List.{map-append, append_assoc, append-nil}
use Rattle.speedy_base.specs.declared.error.ErrorKind.{ErrorKind}
use Rattle.speedy_base.specs.declared.error.ErrorKind.TheVariants as kinds
use Rattle.speedy_base.specs.declared.error.Error.{Error}
use Rattle.speedy_base.specs.Error.{error_of}
use Rattle.speedy_base.specs.Mode.{Mode}
use Rattle.speedy_layout.specs.Format.{Format, Each}
use Rattle.speedy_layout.specs.Laws.{Laws}
use Rattle.speedy_layout.specs.Lists.{each_more, repeat, vector, vector_laws, list}
use Rattle.speedy_layout.specs.Owned.{owned_content}
use Rattle.speedy_layout.specs.Numbers.{unsigned_number}
use Rattle.speedy_layout.specs.Sequences.{across}
use Rattle.speedy_read.specs.Reading.{ReaderState, Kept, Reads, IsEnd}
use Rattle.speedy_read.specs.ReadingLemmas.{
  prefixes_nest,
  Kept-same,
  Kept-after,
  IsTold-after,
  part_refused,
  ends_early,
}
use Rattle.speedy_read.specs.ReadingLemmas.{ReadSoFar, more_so_far, all_so_far, Reads-passed}
use Rattle.speedy_read.specs.Sequences.{Composes}
use Rattle.speedy_read.specs.BehindCounts.{prefixed_list_composes}
use Rattle.speedy_read.proofs.OwnedLemmas.{memory_refused}

-- what is seen of the items and one item more, which was added
pub seen_added : {X V : Type 0} (seen : X → V) (xs zs : List X) (x : X) → zs ≡ xs ++ x ∷ []
    → map seen zs ≡ map seen xs ++ seen x ∷ []
seen_added seen xs zs x added = ap (map seen) added ∙ map-append seen xs (x ∷ [])

-- a list is read as its length, and then the items
pub list_composes : {V : Type 0} (L : Format V) (mode : Mode)
    → Composes (unsigned_number 4 mode) (λ n. vector n L) (list mode L) (λ n vs. vs)
unfolding list
list_composes L mode = prefixed_list_composes (unsigned_number 4 mode) L

-- the first ones of items are encoded by a prefix
first_items : {V : Type 0} {encodes : V → List ℕ → Type 0} (k : ℕ) (ws : List V) (t : List ℕ) → k ≤ length ws
    → Each encodes ws t
    → (us : List V) × (prefix rest : List ℕ) × (length us ≡ k) × (t ≡ prefix ++ rest) × Each encodes us prefix
first_items zero ws t l h = ([], [], t, refl, refl, refl)
first_items (suc k) [] t l h = absurd (omega arith)
first_items (suc k) (w ∷ ws) t l h =
    let more = first_items k ws h.suffix (omega arith) h.second_is in (
      w ∷ more.0,
      h.prefix ++ more.1,
      more.2,
      ap suc more.3,
      h.whole_is ∙ (ap (λ x. h.prefix ++ x) more.4 ∙ sym (append_assoc h.prefix more.1 more.2)),
      record { prefix = h.prefix; suffix = more.1; whole_is = refl; first_is = h.first_is; second_is = more.5 },
    )

module _ {V : Type 0} {strict : Bool} {least : ℕ} {L : Format V} (laws : Laws strict least L) where
  -- where more items are encoded than were read, the next ones are encoded by what is left
  next_items : (k : ℕ) (vs ws : List V) (s t r q : List ℕ) → length vs + k ≤ length ws → Each L.encodes vs s
      → Each L.encodes ws t → s ++ r ≡ t ++ q
      → (us : List V) × (prefix rest : List ℕ) × (r ≡ prefix ++ rest) × (length us ≡ k) × Each L.encodes us prefix
  next_items k [] ws s t r q l h e is =
      let some = first_items k ws t (let fits = l in omega arith) e in (
        some.0,
        some.1,
        some.2 ++ q,
        ap (λ x. x ++ r) (sym h) ∙ (is ∙ (ap (λ x. x ++ q) some.4 ∙ append_assoc some.1 some.2 q)),
        some.3,
        some.5,
      )
  next_items k (v ∷ vs) [] s t r q l h e is = absurd (omega arith)
  next_items k (v ∷ vs) (w ∷ ws) s t r q l h e is =
      let joined = across s t r q h.prefix h.suffix e.prefix e.suffix h.whole_is e.whole_is is in
      let first = laws.decodes v w h.prefix e.prefix (h.suffix ++ r) (e.suffix ++ q) h.first_is e.first_is joined in
      next_items k vs ws h.suffix e.suffix r q (omega arith) h.second_is e.second_is first.2

  -- where more items are encoded than were read, the next one is encoded by what is left
  pub next_item : (vs ws : List V) (s t r q : List ℕ) → length vs < length ws → Each L.encodes vs s
      → Each L.encodes ws t
      → s ++ r ≡ t ++ q → (w : V) × (prefix rest : List ℕ) × (r ≡ prefix ++ rest) × L.encodes w prefix
  next_item vs [] s t r q l h k e = absurd (omega arith)
  next_item [] (w ∷ ws) s t r q l h k e = (
    w,
    k.prefix,
    k.suffix ++ q,
    ap (λ x. x ++ r) (sym h) ∙ (e ∙ (ap (λ x. x ++ q) k.whole_is ∙ append_assoc k.prefix k.suffix q)),
    k.first_is,
  )
  next_item (v ∷ vs) (w ∷ ws) s t r q l h k e =
      let joined = across s t r q h.prefix h.suffix k.prefix k.suffix h.whole_is k.whole_is e in
      let first = laws.decodes v w h.prefix k.prefix (h.suffix ++ r) (k.suffix ++ q) h.first_is k.first_is joined in
      let fewer : length vs < length ws = omega arith in
      next_item vs ws h.suffix k.suffix r q fewer h.second_is k.second_is first.2

  module _ {E : Type 0} {gives : Error → E → Type 0} {eof : E → Bool} {B : Type 0} {seen' : B → List V} (n : ℕ)
      {old : ReaderState} where
    -- fewer bytes remain than n items have at least
    pub refused_early : {e : E} → IsEnd gives eof old.fixed.ends_by_device e
        → (IsTrue old.fixed.tells → length old.remaining < 2 ^ 64 - 1 → length old.remaining < n * least)
        → Reads gives eof seen' (vector n L) (Err e) old old
    unfolding vector owned_content repeat
    refused_early ended fewer = record {
      kept = Kept-same;
      answer = inr (ends_early refl (n * least) (vector_laws laws n).least_size
          (λ _ bad. elim bad [ inl h ↦ h | inr h ↦ h ]) ended fewer);
    }

    -- where what follows the first items is refused, the vector is
    refused_next : {A U : Type 0} {M : Format U} {seen : A → U} (vs : List V) {e : E} {result : Result B E}
        {mid new : ReaderState} → (IsTrue M.asks.lending → IsTrue L.asks.lending)
        → ((kind : ErrorKind) → M.names kind → L.names kind)
        → ((ws : List V) (s t r q : List ℕ) → length ws ≡ n → Each L.encodes vs s → Each L.encodes ws t
        → s ++ r ≡ t ++ q → (u : U) × (prefix rest : List ℕ) × (r ≡ prefix ++ rest) × M.encodes u prefix)
        → ReadSoFar (Each L.encodes vs) old mid → IsErrAnd result (λ x. x ≡ e)
        → Reads gives eof seen M (Err e) mid new → Reads gives eof seen' (vector n L) result old new
    unfolding vector owned_content repeat
    refused_next {M = M} vs {e = e} {mid = mid} {new = new} lends names next so_far passed r =
        let got = so_far.got in
        Reads-passed passed (record {
          kept = Kept-after so_far.kept r.kept;
          answer = part_refused new so_far.kept.fixed so_far.got.no_fault (λ _. refl) lends names
              (λ told because.
              let un = because (IsTold-after so_far.kept lends told) in
              record {
                no_prefix = λ ws prefix rest is sp.
                    let part = next ws got.prefix prefix mid.remaining rest sp.0 got.prefix_is sp.1
                    (sym (got.taken told.tells) ∙ is) in
                    un.no_prefix part.0 part.1 part.2 part.3 part.4;
                too_short = λ ws more sp.
                    let whole = old.remaining ++ more in
                    let joined = sym (append_assoc got.prefix mid.remaining more)
                    ∙ (ap (λ x. x ++ more) (sym (got.taken told.tells)) ∙ sym (append-nil whole)) in
                    let part = next ws got.prefix whole (mid.remaining ++ more) [] sp.0 got.prefix_is sp.1 joined in
                    elim (prefixes_nest mid.remaining more part.1 part.2 part.3) [
                      | inl h ↦ un.too_short part.0 h.0 (subst (M.encodes part.0) h.1 part.4)
                      | inr h ↦ absurd (un.no_prefix part.0 part.1 h.0 h.1 part.4)
                    ];
                malformed = λ bad. absurd bad;
                wrong_length = λ wrong. absurd wrong;
              })
              r.answer;
        })

    -- so where an item is
    pub refused_item : {A : Type 0} {seen : A → V} (vs : List V) {e : E} {result : Result B E} {mid new : ReaderState}
        → length vs < n → ReadSoFar (Each L.encodes vs) old mid → IsErrAnd result (λ x. x ≡ e)
        → Reads gives eof seen L (Err e) mid new → Reads gives eof seen' (vector n L) result old new
    refused_item vs fewer =
        refused_next vs (λ need. need) (λ kind h. h) (λ ws s t r q l h k is.
        next_item vs ws s t r q (subst (λ (m : ℕ). length vs < m) (sym l) fewer) h k is)

    -- and where several are
    pub refused_items : {A : Type 0} {seen : A → List V} (k : ℕ) (vs : List V) {e : E} {result : Result B E}
        {mid new : ReaderState} → length vs + k ≤ n → ReadSoFar (Each L.encodes vs) old mid
        → IsErrAnd result (λ x. x ≡ e) → Reads gives eof seen (vector k L) (Err e) mid new
        → Reads gives eof seen' (vector n L) result old new
    unfolding vector owned_content repeat
    refused_items k vs fewer =
        refused_next vs (λ need. need) (λ kind h. h) (λ ws s t r q l h e is.
        let some = next_items k vs ws s t r q (subst (λ (m : ℕ). length vs + k ≤ m) (sym l) fewer) h e is in
        (some.0, some.1, some.2, some.3, (some.4, some.5)))

module _ {E : Type 0} {gives : Error → E → Type 0} {eof : E → Bool} {V : Type 0} (L : Format V)
    {old new : ReaderState} where
  -- one item more was read
  pub item_more : {A : Type 0} {seen : A → V} {x : A} (vs : List V) {ws : List V} {mid : ReaderState}
      → ReadSoFar (Each L.encodes vs) old mid → Reads gives eof seen L (Ok x) mid new → ws ≡ vs ++ seen x ∷ []
      → ReadSoFar (Each L.encodes ws) old new
  item_more {seen = seen} {x = x} vs so_far read is =
      subst (λ (us : List V). ReadSoFar (Each L.encodes us) old new) (sym is)
      (more_so_far so_far read (λ s t h k. each_more L.encodes vs (seen x) s t h k))

  -- all items were read
  pub got_items : {B : Type 0} {seen' : B → List V} {y : B} (n : ℕ) → ReadSoFar (Each L.encodes (seen' y)) old new
      → length (seen' y) ≡ n → Reads gives eof seen' (vector n L) (Ok y) old new
  unfolding vector owned_content repeat
  got_items n so_far l = all_so_far so_far (λ s h. (l, h))

-- want of memory for an item
pub refused_room : {E : Type 0} {gives : Error → E → Type 0} {eof : E → Bool} {V : Type 0} (n : ℕ) (L : Format V)
    (e : E) {old new : ReaderState} {B : Type 0} {seen' : B → List V} {result : Result B E} → Kept old new
    → new.faults ≡ old.faults → IsErrAnd result (λ x. x ≡ e)
    → gives (error_of kinds.OutOfMemory) e → Reads gives eof seen' (vector n L) result old new
unfolding vector
refused_room {gives = gives} {eof = eof} n L e {old = old} {new = new} {seen' = seen'} k clean passed g =
    let refused : Reads gives eof seen' (owned_content (repeat n L)) (Err e) old new =
    memory_refused (repeat n L) k clean g in
    Reads-passed passed refused
