-- Reads of lent bytes make reads of views.
use Rattle.std.specs.Prelude.{◌≡◌, ℕ, ◌+◌, ◌-◌, ◌*◌, ◌<◌, ◌≤◌, ◌^◌, List, ◌++◌, length, replicate, map, Bool, Ok, Err}
use Rattle.std.specs.Prelude.{Result, IsErrAnd, refl}
use Rattle.std.proofs.Common.{sym, ◌∙◌, ap, subst, inr, arith, inl}
use Rattle.std.proofs.lemmas.List.{length-append, length-map, length-replicate}
use Rattle.speedy_base.specs.declared.error.Error.{Error}
use Rattle.speedy_base.specs.Digits.{AreBytes}
use Rattle.speedy_layout.specs.Format.{Format, Each}
use Rattle.speedy_layout.specs.Lists.{repeat, vector}
use Rattle.speedy_layout.specs.Owned.{owned_content, borrowed_content}
use Rattle.speedy_layout.specs.Texts.{raw_bytes}
use Rattle.speedy_layout.specs.Views.{shown_items, length-shown_many, shown_items_encoded, each_one_size}
use Rattle.speedy_read.specs.Reading.{ReaderState, Reads, IsEnd}
use Rattle.speedy_read.specs.ReadingLemmas.{IsTold-part, Reads-passed, ends_early, part_refused}
use Rattle.speedy_read.specs.Codes.{refused_covered, got_covered}
use Rattle.speedy_read.proofs.LentLemmas.{borrowed_covers, bytes_cover_items}

-- items of one size
module _ {V : Type 0} (size : ℕ) (F : Format V)
    (one : (v : V) (bytes : List ℕ) → F.encodes v bytes → length bytes ≡ size) (n : ℕ) where
  module _ {E : Type 0} {gives : Error → E → Type 0} {eof : E → Bool} {old new : ReaderState} {X Y : Type 0}
      {shows : X → List ℕ} {seen' : Y → List V} where
    -- lent bytes that are refused are no items
    pub view_not_lent : {e : E} {result : Result Y E} → IsErrAnd result (λ x. x ≡ e)
        → Reads gives eof shows (borrowed_content (raw_bytes (n * size))) (Err e) old new
        → Reads gives eof seen' (borrowed_content (vector n F)) result old new
    unfolding borrowed_content vector owned_content
    view_not_lent passed r = refused_covered (borrowed_covers (bytes_cover_items size F one n refl)) passed r

    -- those that are answered are the items that they show, if any bytes of that size encode one
    pub view_lent : {A : Type 0} (decoded : List ℕ → A) (seen : A → V) → 0 < size
        → ((bytes : List ℕ) → length bytes ≡ size → AreBytes bytes → F.encodes (seen (decoded bytes)) bytes)
        → {x : X} {y : Y} → seen' y ≡ map seen (shown_items decoded size (shows x)) → AreBytes (shows x)
        → Reads gives eof shows (borrowed_content (raw_bytes (n * size))) (Ok x) old new
        → Reads gives eof seen' (borrowed_content (vector n F)) (Ok y) old new
    unfolding raw_bytes borrowed_content vector owned_content repeat
    view_lent decoded seen some decodes {x = x} {y = y} same are r =
        got_covered
        (λ s h.
        let whole = ap length h.0 ∙ h.1 in
        let items = map seen (shown_items decoded size (shows x)) in
        let many : length items ≡ n =
        length-map (shown_items decoded size (shows x)) seen ∙ length-shown_many decoded size n (shows x) some whole in
        let encoded : Each F.encodes items (shows x) =
        shown_items_encoded decoded size seen F.encodes decodes n (shows x) some whole are in
        subst (λ (vs : List V). (length vs ≡ n) × Each F.encodes vs s) (sym same) (
          many,
          subst (λ (t : List ℕ). Each F.encodes items t) h.0 encoded,
        ))
        r

  -- no input has more bytes than can be counted
  module _ {E : Type 0} {gives : Error → E → Type 0} {eof : E → Bool} {old new : ReaderState} {X Y : Type 0}
      {shows : X → List ℕ} {seen' : Y → List V} (many : 2 ^ 64 ≤ n * size) where
    pub more_than_all : (k : ℕ) {x : X} {e : E} → IsEnd gives eof old.fixed.ends_by_device e
        → Reads gives eof shows (borrowed_content (raw_bytes k)) (Ok x) old new
        → Reads gives eof seen' (borrowed_content (vector n F)) (Err e) old new
    unfolding borrowed_content vector owned_content repeat
    more_than_all k ended r = record {
      kept = r.kept;
      answer =
          inr (ends_early r.answer.no_fault (n * size)
          (λ vs s h. let l = each_one_size one vs s h.1 ∙ ap (λ m. m * size) h.0 in omega arith)
          (λ _ bad. elim bad [ inl h ↦ h | inr h ↦ h ]) ended (λ _ fit. omega arith));
    }

    -- so where as many as can be counted are refused, the items are
    pub all_refused : {e : E} {result : Result Y E} → IsErrAnd result (λ x. x ≡ e)
        → Reads gives eof shows (borrowed_content (raw_bytes (2 ^ 64 - 1))) (Err e) old new
        → Reads gives eof seen' (borrowed_content (vector n F)) result old new
    unfolding raw_bytes borrowed_content vector owned_content repeat
    all_refused passed r = Reads-passed passed (record {
      kept = r.kept;
      answer = part_refused new refl refl (λ t. t) (λ t. t) (λ kind h. absurd h)
          (λ told because.
          let un = because (IsTold-part (λ t. t) told) in
          let missing = replicate (2 ^ 64 - 1 - length old.remaining) 0 in
          record {
            no_prefix = λ vs prefix rest is sp.
                let whole = ap length is ∙ length-append prefix rest in
                let l = each_one_size one vs prefix sp.1 ∙ ap (λ m. m * size) sp.0 in
                let fit = told.fit in
                absurd (omega arith);
            too_short = λ vs more sp.
                let fit = told.fit in
                un.too_short (old.remaining ++ missing) missing (
                  refl,
                  length-append old.remaining missing
                      ∙ (ap (λ m. length old.remaining + m) (length-replicate (2 ^ 64 - 1 - length old.remaining) 0)
                      ∙ omega arith),
                );
            malformed = λ bad. absurd bad;
            wrong_length = λ wrong. absurd wrong;
          })
          r.answer;
    })
