-- Values that are put where they are to stand are written.
use Rattle.std.specs.Prelude.{◌≡◌, ℕ, ◌+◌, ◌-◌, ◌*◌, ◌/◌, ◌<◌, ◌≤◌, List, [], ◌∷◌, ◌++◌, length, map, take, drop}
use Rattle.std.specs.Prelude.{Ok, Err, Some, refl}
use borrow.Rule.Slice.PartMut.{put_mid}
use native.Mathlib.Nat.{add-mul}
use Rattle.std.specs.Borrow.{GName}
use Rattle.std.proofs.Common.{◌∙◌, sym, subst, ap, inl, inr, arith}
use Rattle.std.proofs.Math.Nat.{div-lt_iff_lt-mul}
use Rattle.std.proofs.lemmas.List.{append-nil, drop-append-le, length-take-le, map-append, take_all}
use Rattle.std.proofs.lemmas.Slice.{take-put_mid}
use Rattle.speedy_base.specs.declared.endianness.Endianness.{Endianness}
use Rattle.speedy_base.specs.declared.error.Error.{Error}
use Rattle.speedy_base.specs.declared.error.ErrorKind.TheVariants as kinds
use Rattle.speedy_base.specs.Device.{SinkState}
use Rattle.speedy_base.specs.Error.{error_of}
use Rattle.speedy_base.specs.Mode.{Mode}
use Rattle.speedy_layout.specs.Format.{Format, Each}
use Rattle.speedy_layout.specs.Laws.{Laws}
use Rattle.speedy_layout.specs.Lists.{each_append, repeat_laws}
use Rattle.speedy_write.specs.CollectorLemmas.{put_length, part_prefix}
use Rattle.speedy_write.specs.Collectors.{buffer_state, sink_state, BufferAppends}
use Rattle.speedy_write.specs.FixedBytes.{PutsAt, PutsBehind}
use Rattle.speedy_write.specs.Buffering.{Buffers}
use Rattle.speedy_write.specs.Writing.{WritesEach, WritesBytes}
use Rattle.speedy_write.proofs.BufferingLemmas.{waits_too}
use Rattle.speedy_write.proofs.ListLemmas.{values_are_written}
use Rattle.speedy_layout.proofs.FixedNumberLemmas.{one_more_put, all_put, one_more_times, room_ahead}

module _ {E A V : Type 0} {gives : Error → E → Type 0} {F : Mode → Format V} {least : ℕ} {mode : Mode}
    {order : Endianness} {at end size : ℕ} {buffer after : List ℕ}
    (laws : (mode : Mode) → Laws mode.strict least (F mode)) (seen : A → V) (values : List A)
    (same : order ≡ mode.order)
    (p : PutsAt F seen values size order at buffer end after) where
  -- behind what a buffer holds
  pub put_in_buffer : {targets : List GName}
      → WritesEach gives F seen values (Ok tt) (buffer_state mode targets (length buffer - at))
      (buffer_state mode targets (length after - end)) (λ b. BufferAppends at buffer b end after)
  put_in_buffer {targets = targets} =
      let length_is = put_length at buffer p.bytes end after p.are_put in
      let end_is = p.are_put.end_is in
      let within = p.are_put.within in
      let written : WritesBytes gives p.bytes (Ok tt) (buffer_state mode targets (length buffer - at))
      (buffer_state mode targets (length after - end)) (λ b. BufferAppends at buffer b end after) = record {
        kept = record { fixed = refl; mode = refl; faults = omega arith; waits = λ settled. settled };
        answer = record {
          bytes = p.bytes;
          is_written = refl;
          is_appended = p.are_put;
          fits = omega arith;
          space = ap Some (omega arith);
          no_fault = refl;
        };
      } in
      values_are_written laws seen values same p.is_written written

  -- behind what a vector holds in front of zeros
  pub put_in_vec : {targets : List GName} {most : ℕ} (old kept : List ℕ) → length buffer ≤ most
      → take at buffer ≡ take at old → kept ≡ after
      → WritesEach gives F seen values (Ok tt) (buffer_state mode targets (most - at))
      (buffer_state mode targets (most - end)) (λ b. take end kept ≡ take at old ++ b)
  put_in_vec {targets = targets} {most = most} old kept short prefix suffix =
      let end_is = p.are_put.end_is in
      let within = p.are_put.within in
      let all : take end kept ≡ take at old ++ p.bytes =
      ap (take end) (suffix ∙ p.are_put.after_is)
      ∙ (part_prefix at buffer p.bytes end end_is within ∙ ap (λ (l : List ℕ). l ++ p.bytes) prefix) in
      let written : WritesBytes gives p.bytes (Ok tt) (buffer_state mode targets (most - at))
      (buffer_state mode targets (most - end)) (λ b. take end kept ≡ take at old ++ b) = record {
        kept = record { fixed = refl; mode = refl; faults = omega arith; waits = λ settled. settled };
        answer = record {
          bytes = p.bytes;
          is_written = refl;
          is_appended = all;
          fits = omega arith;
          space = ap Some (omega arith);
          no_fault = refl;
        };
      } in
      values_are_written laws seen values same p.is_written written

-- values that take more bytes than are left are refused, and nothing is put
pub none_put : {E A V : Type 0} {gives : Error → E → Type 0} {F : Mode → Format V} {least size left : ℕ} {mode : Mode}
    {targets : List GName} {e : E} {appended : List ℕ → Type 0}
    (laws : (mode : Mode) → Laws mode.strict least (F mode)) (seen : A → V) (values : List A) → least ≡ size → 0 < size
    → left / size < length values → gives (error_of kinds.UnexpectedEndOfOutputBuffer) e → appended []
    → WritesEach gives F seen values (Err e) (buffer_state mode targets left) (buffer_state mode targets left) appended
none_put {size = size} {left = left} {mode = mode} laws seen values same some past error none =
    let all = repeat_laws (laws mode) (length values) in
    let long : left < length values * size = (div-lt_iff_lt-mul some).0 past in
    record {
      kept = record { fixed = refl; mode = refl; faults = omega arith; waits = λ settled. settled };
      answer = record {
        beginning = λ b h. record { prefix = []; rest = b; is_written = h; is_appended = none };
        appends = ([], none);
        because = inr (record {
          no_fault = refl;
          no_fit = λ b h fit.
              let takes = all.least_size (map seen values) b (all.written_encodes (map seen values) b h) in
              let each = ap (λ (n : ℕ). length values * n) same in
              absurd (omega (arith, takes, each, long, fit));
          no_encoding = λ unbounded. absurd (cc);
          kind = inl ((λ unbounded. absurd (cc)), error);
        });
      };
    }

-- behind what waits in a room
pub put_behind : {A V : Type 0} {F : Mode → Format V} {order : Endianness} {at end size : ℕ} {buffer after : List ℕ}
    (seen : A → V) (values : List A) (start : ℕ) → PutsAt F seen values size order at buffer end after → start ≤ at
    → at ≤ length buffer → PutsBehind F seen values order (drop start (take at buffer)) (drop start (take end after))
put_behind {at = at} {end = end} {buffer = buffer} seen values start p begins lies = record {
  bytes = p.bytes;
  all_is = ap (λ (l : List ℕ). drop start (take end l)) p.are_put.after_is
      ∙ (ap (drop start) (part_prefix at buffer p.bytes end p.are_put.end_is p.are_put.within)
      ∙ drop-append-le start (take at buffer) p.bytes (omega (arith, length-take-le at buffer lies)));
  is_written = p.is_written;
}

-- values that wait are written
pub values_wait : {E A V : Type 0} {gives : Error → E → Type 0} {F : Mode → Format V} {least : ℕ}
    {mode : Mode} {order : Endianness} {name : GName} {v w : List ℕ} {s : SinkState}
    (laws : (mode : Mode) → Laws mode.strict least (F mode)) (seen : A → V) (values : List A)
    → order ≡ mode.order → PutsBehind F seen values order v w
    → WritesEach gives F seen values (Ok tt) (sink_state mode name s) (sink_state mode name s)
    (λ b. Buffers s v b s w)
values_wait laws seen values same p = values_are_written laws seen values same p.is_written (waits_too p.bytes p.all_is)

-- ---- values that go through a chunk

module _ {A V : Type 0} (R : V → List ℕ → Type 0) (seen : A → V) where
  -- a chunk of them is put behind those before
  pub chunk_put : (done some : List A) (at k : ℕ) (output bytes put : List ℕ) → put ≡ bytes → at ≤ length output
      → Each R (map seen done) (take at output) → Each R (map seen some) bytes
      → Each R (map seen (done ++ some)) (take (at + length bytes) (put_mid at k output put))
  chunk_put done some at k output bytes put same within h p =
      let together = each_append R (map seen done) (map seen some) (take at output) put h
      (subst (Each R (map seen some)) (sym same) p) in
      let prefix =
      take-put_mid at k output put (at + length bytes) (ap (λ (l : List ℕ). at + length l) (sym same)) within in
      subst (λ (vs : List V). Each R vs (take (at + length bytes) (put_mid at k output put)))
      (sym (map-append seen done some)) (subst (Each R (map seen done ++ map seen some)) (sym prefix) together)

  -- with the last of them all are put
  pub all_chunks_put : (values done rest : List A) (at size : ℕ) (output : List ℕ) → length rest ≡ 0
      → at + length rest * size ≡ length output → values ≡ done ++ rest → Each R (map seen done) (take at output)
      → Each R (map seen values) output
  all_chunks_put values done [] at size output none ends is h =
      let whole : take at output ≡ output = take_all at output (omega (arith, ends)) in
      subst (λ (vs : List A). Each R (map seen vs) output) (sym (is ∙ append-nil done))
      (subst (Each R (map seen done)) whole h)
  all_chunks_put values done (x ∷ rest) at size output none ends is h = absurd (omega (arith, none))

-- what is left of the output behind one more chunk
pub chunk_ends : (at rest some more size bytes total : ℕ) → at + rest * size ≡ total → rest ≡ some + more
    → bytes ≡ some * size → (at + bytes) + more * size ≡ total
chunk_ends at rest some more size bytes total ends parts taken =
    let both = add-mul some more size in
    let whole : rest * size ≡ (some + more) * size = ap (λ (n : ℕ). n * size) parts in
    omega (arith, ends, both, whole, taken)

-- one value more is put, and all are
pub ruleset puts = (one_more_put, all_put, one_more_times, room_ahead)
