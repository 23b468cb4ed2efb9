-- What `bytes_needed` answers follows from what a write into a collector does that only counts.
-- Items may be counted one by one.
use Rattle.std.specs.Prelude.{◌≡◌, ℕ, ◌+◌, ◌-◌, ◌^◌, ◌<◌, List, [], ◌∷◌, ◌++◌, length, map, take, Result, Ok}
use Rattle.std.specs.Prelude.{Option, Some, None, MatchOption, refl}
use Rattle.std.specs.Borrow.{GName}
use Rattle.std.proofs.Common.{sym, ◌∙◌, ap, subst, arith}
use Rattle.std.proofs.Math.ListN.{get_or}
use Rattle.std.proofs.lemmas.List.{length-append, length-map, map-append}
use Rattle.speedy_base.specs.declared.error.Error.{Error}
use Rattle.speedy_base.specs.Mode.{Mode}
use Rattle.speedy_layout.specs.Format.{Format, Each}
use Rattle.speedy_layout.specs.Laws.{Laws}
use Rattle.speedy_layout.specs.Wholes.{WholeLaws, whole_laws}
use Rattle.speedy_layout.specs.Lists.{each_append, each_more, repeat, repeat_laws}
use Rattle.speedy_write.specs.Writing.{WriterState, Writes, WritesEach, WritesBytes, CountsBytes}
use Rattle.speedy_write.specs.Sequences.{form_written, whole_form_written, one_whole_length}
use Rattle.speedy_write.specs.Counting.{counting_state, CountAppends, CountsEach, HasSize}
use Rattle.speedy_write.specs.WaysOfWriting.{NeedsIn}
use Rattle.speedy_write.proofs.ListLemmas.{first_items}

-- a sum below its greatest value is the length of what was written
pub whole_counted : {E : Type 0} {gives : Error → E → Type 0} {V : Type 0} {F : Mode → Format V} {v : V}
    {mode at : Mode} {sum size answered : ℕ} {targets : List GName} {after : WriterState} {u : Unit {0}}
    → WholeLaws mode.strict (F mode) → at ≡ mode → sum ≡ 0 → answered ≡ size → answered < 2 ^ 64 - 1
    → Writes gives F v (Ok u) (counting_state at targets) after (λ b. CountAppends sum b size)
    → NeedsIn gives (F mode) v (Ok answered)
whole_counted {gives = gives} {F = F} {v = v} {sum = sum} {size = size} {answered = answered} {targets = targets}
    {after = after} {u = u} laws same_mode starts is less w =
    let put =
    (subst (λ (f : Mode). Writes gives F v (Ok u) (counting_state f targets) after (λ b. CountAppends sum b size))
    same_mode w).answer in
    let long : answered ≡ length put.bytes = let e = put.is_appended in omega (arith, starts, is, less) in
    record {
      written = (put.bytes, put.is_written, long);
      answers =
          λ bytes writes _.
          let same = one_whole_length laws v put.bytes bytes put.is_written writes in omega (arith, long);
      too_long = λ bytes writes past.
          let same = one_whole_length laws v put.bytes bytes put.is_written writes in
          absurd (omega (arith, long));
      refused = tt;
    }

pub counted : {E : Type 0} {gives : Error → E → Type 0} {V : Type 0} {F : Mode → Format V} {v : V}
    {mode at : Mode} {least sum size answered : ℕ} {targets : List GName} {after : WriterState} {u : Unit {0}}
    → Laws mode.strict least (F mode) → at ≡ mode → sum ≡ 0 → answered ≡ size → answered < 2 ^ 64 - 1
    → Writes gives F v (Ok u) (counting_state at targets) after (λ b. CountAppends sum b size)
    → NeedsIn gives (F mode) v (Ok answered)
counted laws = whole_counted (whole_laws laws)

-- ---- items, one by one

-- one more item is counted
pub one_more_counted : {A V : Type 0} {x : A} {sum size : ℕ} (writes : V → List ℕ → Type 0) (seen : A → V)
    (items : List A) (i : ℕ) → i < length items → x ≡ get_or items i x → CountsEach writes (map seen (take i items)) sum
    → HasSize writes (seen x) size → CountsEach writes (map seen (take (i + 1) items)) (sum + size)
one_more_counted {x = x} writes seen items i within is h k = (
  h.0 ++ k.0,
  subst (λ vs. Each writes vs (h.0 ++ k.0))
      (sym (ap (map seen) (first_items items i within is) ∙ map-append seen (take i items) (x ∷ [])))
      (each_more writes (map seen (take i items)) (seen x) h.0 k.0 h.1 k.1),
  let l = length-append h.0 k.0 in omega (arith, l, h.2, k.2),
)

-- and some more are
pub more_counted : {A V : Type 0} {sum size : ℕ} (writes : V → List ℕ → Type 0) (seen : A → V) (done some : List A)
    → CountsEach writes (map seen done) sum → CountsEach writes (map seen some) size
    → CountsEach writes (map seen (done ++ some)) (sum + size)
more_counted writes seen done some h k = (
  h.0 ++ k.0,
  subst (λ vs. Each writes vs (h.0 ++ k.0)) (sym (map-append seen done some))
      (each_append writes (map seen done) (map seen some) h.0 k.0 h.1 k.1),
  let l = length-append h.0 k.0 in omega (arith, l, h.2, k.2),
)

-- a writer that counts the bytes of items does as it would in writing them
pub items_counted : {E A V : Type 0} {gives : Error → E → Type 0} {F : Mode → Format V} {least size : ℕ}
    {result : Result (Unit {0}) E} {old new : WriterState} {appended : List ℕ → Type 0} {mode : Mode}
    (seen : A → V) (items : List A)
    → ((mode : Mode) → Laws mode.strict least (F mode)) → mode ≡ old.mode
    → CountsEach (F mode).writes (map seen items) size
    → ((bytes : List ℕ) → length bytes ≡ size → WritesBytes gives bytes result old new appended)
    → WritesEach gives F seen items result old new appended
unfolding repeat
items_counted {F = F} {size = size} {old = old} seen items laws same h told =
    let k = subst (λ (e : Mode). CountsEach (F e).writes (map seen items) size) same h in
    form_written (λ e. repeat_laws (laws e) (length items)) (length-map items seen, k.1) (told k.0 k.2)

-- what a writer answers that may count them
pub items_counted_if : {E A V W : Type 0} (gives : Error → E → Type 0) (state : W → WriterState)
    (appends : W → List ℕ → W → Type 0) (F : Mode → Format V) {least size : ℕ} (old new : W) (seen : A → V)
    (items : List A)
    → ((mode : Mode) → Laws mode.strict least (F mode))
    → CountsEach (F (state old).mode).writes (map seen items) size
    → (counted : Option (Result (Unit {0}) E)) → CountsBytes gives state appends size counted old new
    → MatchOption counted (new ≡ old)
    (λ written. WritesEach gives F seen items written (state old) (state new) (λ b. appends old b new))
items_counted_if gives state appends F old new seen items laws h None told = told
items_counted_if gives state appends F old new seen items laws h (Some written) told =
    items_counted seen items laws refl h told

-- and of one value
pub whole_item_counted : {E V : Type 0} {gives : Error → E → Type 0} {F : Mode → Format V} {size : ℕ}
    {result : Result (Unit {0}) E} {old new : WriterState} {appended : List ℕ → Type 0} {mode : Mode} {v : V}
    → ((mode : Mode) → WholeLaws mode.strict (F mode)) → mode ≡ old.mode
    → HasSize (F mode).writes v size
    → ((bytes : List ℕ) → length bytes ≡ size → WritesBytes gives bytes result old new appended)
    → Writes gives F v result old new appended
whole_item_counted {F = F} {size = size} {v = v} laws same h told =
    let k = subst (λ (e : Mode). HasSize (F e).writes v size) same h in
    whole_form_written laws k.1 (told k.0 (sym k.2))

pub item_counted : {E V : Type 0} {gives : Error → E → Type 0} {F : Mode → Format V} {least size : ℕ}
    {result : Result (Unit {0}) E} {old new : WriterState} {appended : List ℕ → Type 0} {mode : Mode} {v : V}
    → ((mode : Mode) → Laws mode.strict least (F mode)) → mode ≡ old.mode
    → HasSize (F mode).writes v size
    → ((bytes : List ℕ) → length bytes ≡ size → WritesBytes gives bytes result old new appended)
    → Writes gives F v result old new appended
item_counted laws = whole_item_counted (λ mode. whole_laws (laws mode))

-- ---- a writer whose context was lent

-- what is written behind the one writer is written behind the other
pub record StaysAs {W : Type 0} (state : W → WriterState) (appends : W → List ℕ → W → Type 0)
    (old new : W) : Type 0 where
  pub state_is : state new ≡ state old
  pub joins : (bytes : List ℕ) (w : W) → appends new bytes w → appends old bytes w

pub stays_same : {W : Type 0} {state : W → WriterState} {appends : W → List ℕ → W → Type 0} {old : W}
    → StaysAs state appends old old
stays_same = record { state_is = refl; joins = λ _ _ h. h }

-- a writer that has its context back, with the mode that this had, changes nothing that a write sees, and writes in
-- that encoding
pub context_back : {W C : Type 0} {state : W → WriterState} {appends : W → List ℕ → W → Type 0}
    {with_context : W → C → W} (at : W → C) (mode : C → Mode)
    → ((w : W) → (state w).mode ≡ mode (at w))
    → ((w : W) (c : C) → state (with_context w c) ≡ record (state w) { mode = mode c })
    → ((w : W) → appends w [] w)
    → ((a b c : W) (s t : List ℕ) → appends a s b → appends b t c → appends a (s ++ t) c)
    → ((a b : W) (s : List ℕ) (c : C) → appends a s b → appends a s (with_context b c) × appends (with_context a c) s b)
    → (w after : W) (lent c : C) → lent ≡ at w → mode c ≡ mode lent → after ≡ with_context w c
    → StaysAs state appends w after × (mode lent ≡ (state after).mode)
context_back {state = state} {appends = appends} {with_context = with_context} at mode mode_at state_with
    nothing additive appends_with w after lent c value kept is =
    let same = ap mode value ∙ sym (mode_at w) in
    let suffix : StaysAs state appends w after = subst (StaysAs state appends w) (sym is) (record {
      state_is = state_with w c ∙ ap (λ e. record (state w) { mode = e }) (kept ∙ same);
      joins = λ bytes v h. additive w (with_context w c) v [] bytes (appends_with w w [] c (nothing w)).0 h;
    }) in
    (suffix, same ∙ sym (ap (λ (s : WriterState). s.mode) suffix.state_is))
