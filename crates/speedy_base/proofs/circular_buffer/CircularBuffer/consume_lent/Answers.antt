use Rattle.std.proofs.Common.{◌≡◌, ◌≤◌, ◌+◌, ◌-◌, [], length, take, drop, refl, ap, sym, ◌∙◌, arith, length-take}
use Rattle.std.proofs.lemmas.List.{take-take}
use Rattle.speedy_base.specs.Ring.{Ring}
use Rattle.speedy_base.proofs.Stretches.{stretch_consumed}
use Rattle.speedy_base.proofs.circular_buffer.CircularBuffer.consume_lent.Goals as goal

pub returns : goal.returns
returns c =
    let b = c.self.inside in
    let xs = b.memory.items in
    let n = c.args.count in
    let kept : b.start + n ≤ b.end =
    omega (arith, ap (λ (r : Ring). length r.bytes) c.self.view_is, length-take (b.end - b.start) (drop b.start xs)) in
    let size : b.start + n - b.start ≡ n = omega arith in (
      (
        refl,
        λ _. tt,
        (λ i. record { bytes = stretch_consumed xs b.start b.end n kept i; capacity = b.capacity; room = [] })
            ∙ ap (λ (r : Ring). record r { bytes = drop n r.bytes; room = [] }) c.self.view_is,
      ),
      record {
        rest = tt;
        bytes = (λ i. take (size i) (drop b.start (c.deref.ensures.value i)))
            ∙ sym (take-take n (b.end - b.start) (drop b.start xs) (omega (arith, kept)))
            ∙ ap (λ (r : Ring). take n r.bytes) c.self.view_is;
      },
    )
