use Rattle.std.proofs.Common.{◌≤◌, ◌++◌, [], length, take, drop, ap, ◌∙◌, arith, length-take}
use Rattle.speedy_base.specs.Ring.{Ring}
use Rattle.speedy_base.proofs.Stretches.{stretch_appended}
use Rattle.speedy_base.proofs.circular_buffer.CircularBuffer.appended.Goals as goal

pub returns : goal.returns
returns c =
    let b = c.self.inside in
    let xs = b.memory.items in
    let n = c.args.count in
    let lent : n ≤ b.lent =
    omega (arith, ap (λ (r : Ring). length r.room) c.self.view_is, length-take b.lent (drop b.end xs)) in
    (λ i. record {
      bytes = stretch_appended xs b.start b.end n b.lent c.self.invariant.0 lent i;
      capacity = b.capacity;
      room = [];
    })
    ∙ ap (λ (r : Ring). record r { bytes = r.bytes ++ take n r.room; room = [] }) c.self.view_is
