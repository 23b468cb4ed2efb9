-- Values that are written to the front of a buffer are written behind what the writer holds that lent it.
use Rattle.std.specs.Prelude.{◌≡◌, ℕ, ◌+◌, ◌-◌, ◌<◌, ◌≤◌, List, [], ◌∷◌, ◌++◌, length, map, take, drop, Ok, Some, refl}
use borrow.Rule.Slice.PartMut.{put_mid, post_of}
use Rattle.std.proofs.Common.{sym, ◌∙◌, ap, subst, arith}
use Rattle.std.proofs.Math.ListN.{get_or}
use Rattle.std.proofs.lemmas.List.{append_assoc, drop-append-le, length-append, length-map}
use Rattle.std.proofs.lemmas.List.{length-take-le, map-append, take-append-drop, take_at}
use Rattle.std.proofs.lemmas.Slice.{take-put_mid_below}
use Rattle.std.specs.Borrow.{GName}
use Rattle.speedy_base.specs.declared.error.Error.{Error}
use Rattle.speedy_base.specs.Device.{SinkState}
use Rattle.speedy_base.specs.Mode.{Mode}
use Rattle.speedy_layout.specs.Format.{Format, Each}
use Rattle.speedy_layout.specs.Laws.{Laws}
use Rattle.speedy_layout.specs.Lists.{each_more, repeat, repeat_laws}
use Rattle.speedy_write.specs.Collectors.{IsAtFront, buffer_state, sink_state}
use Rattle.speedy_write.specs.Buffering.{Buffers, WaitsBehind, buffers_nothing}
use Rattle.speedy_write.specs.Sequences.{form_written}
use Rattle.speedy_write.specs.Writing.{Writes, WritesEach, WritesBytes}
use Rattle.speedy_write.proofs.BufferingLemmas.{waits_too}
use Rattle.speedy_write.proofs.ListLemmas.{first_items}

-- the front of what was put into a buffer behind its own front
pub prefix_behind : (at k more : ℕ) (xs ys : List ℕ) → at ≤ length xs → more ≤ length ys
    → take (at + more) (put_mid at k xs ys) ≡ take at xs ++ take more ys
prefix_behind at k more xs ys within fits =
    let rest = drop more ys ++ post_of at k xs in
    let parts : put_mid at k xs ys ≡ (take at xs ++ take more ys) ++ rest =
    ap (λ (l : List ℕ). take at xs ++ (l ++ post_of at k xs)) (sym (take-append-drop more ys))
    ∙ (ap (λ (l : List ℕ). take at xs ++ l) (append_assoc (take more ys) (drop more ys) (post_of at k xs))
    ∙ sym (append_assoc (take at xs) (take more ys) rest)) in
    let size : length (take at xs ++ take more ys) ≡ at + more =
    length-append (take at xs) (take more ys)
    ∙ omega (arith, length-take-le at xs within, length-take-le more ys fits) in
    ap (take (at + more)) parts ∙ take_at (take at xs ++ take more ys) rest (at + more) size

-- one more item is written behind others
pub item_filled : {A V : Type 0} {x : A} {end more : ℕ} {ys : List ℕ} (writes : V → List ℕ → Type 0)
    (seen : A → V) (items : List A) (k : ℕ) (xs : List ℕ)
    → length (put_mid end k xs ys) ≡ length xs → end + length ys ≡ length xs
    → IsAtFront (Each writes) (map seen items) xs end → IsAtFront writes (seen x) ys more
    → IsAtFront (Each writes) (map seen (items ++ x ∷ [])) (put_mid end k xs ys) (end + more)
item_filled {x = x} {end = end} {more = more} {ys = ys} writes seen items k xs same ends h one =
    let inside = one.within in
    record {
      within = omega (arith, same, ends, inside);
      is_written = subst (Each writes (map seen (items ++ x ∷ [])))
          (sym (prefix_behind end k more xs ys h.within inside))
          (subst (λ vs. Each writes vs (take end xs ++ take more ys)) (sym (map-append seen items (x ∷ [])))
          (each_more writes (map seen items) (seen x) (take end xs) (take more ys) h.is_written one.is_written));
    }

-- and behind the first ones of a list
pub one_more_filled : {A V : Type 0} {x : A} {end more : ℕ} {ys : List ℕ} (writes : V → List ℕ → Type 0)
    (seen : A → V) (items : List A) (i k : ℕ) (xs : List ℕ) → i < length items → x ≡ get_or items i x
    → length (put_mid end k xs ys) ≡ length xs → end + length ys ≡ length xs
    → IsAtFront (Each writes) (map seen (take i items)) xs end → IsAtFront writes (seen x) ys more
    → IsAtFront (Each writes) (map seen (take (i + 1) items)) (put_mid end k xs ys) (end + more)
one_more_filled {end = end} {more = more} {ys = ys} writes seen items i k xs within is same ends h one =
    subst (λ some. IsAtFront (Each writes) (map seen some) (put_mid end k xs ys) (end + more))
    (sym (first_items items i within is)) (item_filled writes seen (take i items) k xs same ends h one)

-- what lies behind the front may change
pub still_filled : {V : Type 0} {writes : V → List ℕ → Type 0} {v : V} {end : ℕ} (k : ℕ) (xs ys : List ℕ)
    → length (put_mid end k xs ys) ≡ length xs → IsAtFront writes v xs end
    → IsAtFront writes v (put_mid end k xs ys) end
still_filled {writes = writes} {v = v} {end = end} k xs ys same h = record {
  within = let inside = h.within in omega (arith, same, inside);
  is_written = subst (writes v) (sym (take-put_mid_below end k xs ys end (omega arith) h.within)) h.is_written;
}

-- what is written behind what waits in a room waits too
pub waits_behind : {V : Type 0} {writes : V → List ℕ → Type 0} {v : V} {end : ℕ} {put : List ℕ} (start at k : ℕ)
    (room : List ℕ) → start ≤ at → at ≤ length room → IsAtFront writes v put end
    → WaitsBehind writes v (drop start (take at room)) (drop start (take (at + end) (put_mid at k room put)))
waits_behind {end = end} {put = put} start at k room begins within h = record {
  bytes = take end put;
  all_is = ap (drop start) (prefix_behind at k end room put within h.within)
      ∙ drop-append-le start (take at room) (take end put) (omega (arith, length-take-le at room within, begins));
  is_written = h.is_written;
}

-- bytes that stand over zeros behind what a vector holds
bytes_behind : {E : Type 0} {gives : Error → E → Type 0} {at end most : ℕ} {kept : List ℕ} (mode : Mode)
    (targets : List GName) (k : ℕ) (old put : List ℕ) → at ≤ length old → at + length put ≤ most
    → kept ≡ put_mid at k old put → end ≤ length put
    → WritesBytes gives (take end put) (Ok tt) (buffer_state mode targets (most - at))
    (buffer_state mode targets (most - (at + end))) (λ b. take (at + end) kept ≡ take at old ++ b)
bytes_behind {at = at} {end = end} mode targets k old put within room is inside =
    let long = length-take-le end put inside in
    record {
      kept = record { fixed = refl; mode = refl; faults = omega arith; waits = λ settled. settled };
      answer = record {
        bytes = take end put;
        is_written = refl;
        is_appended = ap (take (at + end)) is ∙ prefix_behind at k end old put within inside;
        fits = omega (arith, room, inside, long);
        space = ap Some (omega (arith, room, inside, long));
        no_fault = refl;
      };
    }

-- an item that waits is written
pub item_waits : {E V : Type 0} {gives : Error → E → Type 0} {F : Mode → Format V} {least : ℕ} {v : V}
    {mode after : Mode} {name : GName} {waited waits : List ℕ} {s : SinkState}
    → ((mode : Mode) → Laws mode.strict least (F mode)) → after ≡ mode
    → WaitsBehind (F mode).writes v waited waits
    → Writes gives F v (Ok tt) (sink_state mode name s) (sink_state after name s)
    (λ b. Buffers s waited b s waits)
item_waits {gives = gives} {F = F} {v = v} {mode = mode} {name = name} {waited = waited} {waits = waits}
    {s = s} laws same h =
    subst (λ (e : Mode). Writes gives F v (Ok tt) (sink_state mode name s) (sink_state e name s)
    (λ b. Buffers s waited b s waits)) (sym same) (form_written laws h.is_written (waits_too h.bytes h.all_is))

-- where none does, the writer is as it was
pub nothing_waits : {mode after : Mode} {name : GName} {waited waits : List ℕ} {s : SinkState}
    → after ≡ mode → waits ≡ waited
    → (sink_state after name s ≡ sink_state mode name s) × Buffers s waited [] s waits
nothing_waits {name = name} {waited = waited} {s = s} same is = (
  ap (λ e. sink_state e name s) same,
  subst (λ (w : List ℕ). Buffers s waited [] s w) (sym is) (buffers_nothing s waited),
)

-- what lies behind what waits may change
pub still_waiting : (start at k : ℕ) (room put : List ℕ) → at ≤ length room
    → drop start (take at (put_mid at k room put)) ≡ drop start (take at room)
still_waiting start at k room put within =
    ap (drop start) (take-put_mid_below at k room put at (omega arith) within)

module _ {E A V : Type 0} {gives : Error → E → Type 0} {F : Mode → Format V} {least : ℕ} {mode after : Mode}
    (laws : (mode : Mode) → Laws mode.strict least (F mode)) (seen : A → V) (items : List A)
    (same : after ≡ mode) where
  -- items that wait are written
  pub items_wait : {name : GName} {v w : List ℕ} {s : SinkState}
      → WaitsBehind (Each (F mode).writes) (map seen items) v w
      → WritesEach gives F seen items (Ok tt) (sink_state mode name s) (sink_state after name s)
      (λ b. Buffers s v b s w)
  unfolding repeat
  items_wait {name = name} {v = v} {w = w} {s = s} h =
      subst (λ (e : Mode). WritesEach gives F seen items (Ok tt) (sink_state mode name s) (sink_state e name s)
      (λ b. Buffers s v b s w)) (sym same)
      (form_written (λ e. repeat_laws (laws e) (length items)) (length-map items seen, h.is_written)
      (waits_too h.bytes h.all_is))

  -- and so are those that stand over zeros behind what a vector holds
  pub items_behind : {targets : List GName} {at end most : ℕ} {kept put : List ℕ} (k : ℕ) (old : List ℕ)
      → at ≤ length old
      → at + length put ≤ most → kept ≡ put_mid at k old put
      → IsAtFront (Each (F mode).writes) (map seen items) put end
      → WritesEach gives F seen items (Ok tt) (buffer_state mode targets (most - at))
      (buffer_state after targets (most - (at + end))) (λ b. take (at + end) kept ≡ take at old ++ b)
  unfolding repeat
  items_behind {targets = targets} {at = at} {end = end} {most = most} {kept = kept} {put = put} k old within
      room is h =
      subst (λ (e : Mode). WritesEach gives F seen items (Ok tt) (buffer_state mode targets (most - at))
      (buffer_state e targets (most - (at + end))) (λ b. take (at + end) kept ≡ take at old ++ b)) (sym same)
      (form_written (λ e. repeat_laws (laws e) (length items)) (length-map items seen, h.is_written)
      (bytes_behind mode targets k old put within room is h.within))
