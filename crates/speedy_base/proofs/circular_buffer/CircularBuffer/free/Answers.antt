use Rattle.std.proofs.Common.{◌≡◌, ℕ, ◌+◌, ◌-◌, ◌≤◌, List, ◌++◌, length, take, drop, slice_range, min, refl, sym, ap}
use Rattle.std.proofs.Common.{◌∙◌, arith, length-take, length-drop, length-take-le}
use Rattle.speedy_base.specs.Ring.{Ring, overwritten}
use Rattle.speedy_base.proofs.Stretches.{stretch_before_written, stretch_written}
use Rattle.speedy_base.proofs.circular_buffer.CircularBuffer.free.Goals as goal

pub returns : goal.returns
returns c =
    let r : Ring = c.args.self.now in
    let b = c.self.inside in
    let xs = b.memory.items in
    let n = c.min-count.result in
    let bytes_are : slice_range xs b.start b.end ≡ r.bytes = ap (λ (r : Ring). r.bytes) c.self.view_is in
    let capacity_is : b.capacity ≡ r.capacity = ap (λ (r : Ring). r.capacity) c.self.view_is in
    let length_is : c.len-length.result ≡ b.end - b.start =
    omega (
      arith,
      c.len-length.ensures.value,
      length-take (b.end - b.start) (drop b.start xs),
      length-drop b.start xs,
      b.memory.ok.0,
    ) in
    let left : n ≡ min c.args.max (r.capacity - length r.bytes) =
    c.min-count.ensures ∙ (λ i. min c.args.max (capacity_is i - c.len-length.ensures.value i))
    ∙ ap (λ (l : List ℕ). min c.args.max (r.capacity - length l)) bytes_are in
    let room = c.make_room-self-inside in
    let memory = room.new.memory in
    let ys = memory.items in
    let end = room.result + c.len-length.result in
    let fits : end + n ≤ length ys = omega (arith, room.ensures.room, length_is, memory.ok.0) in
    let inside : end ≤ length ys = omega (arith, fits) in
    let size : end + n - end ≡ n = omega arith in
    let bytes_stay : slice_range ys room.result end ≡ r.bytes =
    ap (λ k. slice_range ys room.result (room.result + k)) length_is ∙ room.ensures.bytes ∙ bytes_are in
    let lent : c.slice_mut.result.now ≡ take n (drop end ys) =
    c.slice_mut.ensures.value ∙ ap (λ k. take k (drop end ys)) size in (
      (
        refl,
        λ w.
            let ws = take end ys ++ (w ++ drop (length w) (drop end ys)) in
            let rest = drop (length ws) ys in
            let bytes = ap (λ k. slice_range (take k (ws ++ rest)) room.result end) memory.ok.0
            ∙ stretch_before_written ys w rest end inside room.result ∙ bytes_stay in
            let written = ap (λ k. take n (drop end (take k (ws ++ rest)))) memory.ok.0
            ∙ stretch_written ys w rest end inside n fits ∙ ap (λ (l : List ℕ). overwritten l w) (sym lent) in
            (λ i. record { bytes = bytes i; capacity = capacity_is i; room = written i }),
      ),
      record {
        lends = tt;
        count = ap length lent ∙ length-take-le n (drop end ys) (omega (arith, length-drop end ys)) ∙ left;
      },
    )
