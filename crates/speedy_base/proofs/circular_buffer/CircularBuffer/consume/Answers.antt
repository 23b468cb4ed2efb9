use Rattle.std.proofs.Common.{◌≤◌, ◌+◌, ◌-◌, [], length, drop, ap, ◌∙◌, arith, length-take}
use Rattle.speedy_base.specs.Ring.{Ring}
use Rattle.speedy_base.proofs.Stretches.{stretch_consumed}
use Rattle.speedy_base.proofs.circular_buffer.CircularBuffer.consume.Goals as goal

pub returns : goal.returns
returns c =
    let b = c.self.inside in
    let xs = b.memory.items in
    let n = c.args.count in
    let kept : b.start + n ≤ b.end =
    omega (arith, ap (λ (r : Ring). length r.bytes) c.self.view_is, length-take (b.end - b.start) (drop b.start xs)) in
    (λ i. record { bytes = stretch_consumed xs b.start b.end n kept i; capacity = b.capacity; room = [] })
    ∙ ap (λ (r : Ring). record r { bytes = drop n r.bytes; room = [] }) c.self.view_is
