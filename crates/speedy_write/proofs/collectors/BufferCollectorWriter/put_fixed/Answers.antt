use Rattle.std.proofs.Common.{ℕ, ◌-◌, ◌/◌, ◌<◌, length, subst}
use Rattle.speedy_write.specs.CollectorLemmas.{buffer_nothing}
use Rattle.speedy_write.proofs.FixedLemmas.{put_in_buffer, none_put}
use Rattle.speedy_write.proofs.collectors.BufferCollectorWriter.put_fixed.Goals as goal

pub returns-then-values-room-clause-puts : goal.returns-then-values-room-clause-puts
returns-then-values-room-clause-puts g c =
    let w = c.args.self.now in
    let past = subst (λ (n : ℕ). (length w.buffer.now - w.position) / n < length c.args.values.now) c.BYTES.ensures
    c.if-values-room.true in
    none_put g.T.Layout.layout.laws g.T.Layout.seen c.args.values.now c.has_few_bytes.ensures.least
    c.has_few_bytes.ensures.few.0 past c.error_end_of_output_buffer.ensures
    (buffer_nothing w.position w.buffer.now w.in_range)

pub returns-clause-puts : goal.returns-clause-puts
returns-clause-puts g c =
    put_in_buffer g.T.Layout.layout.laws g.T.Layout.seen c.args.values.now c.endianness-order.ensures
    c.put_values_at-self.ensures
