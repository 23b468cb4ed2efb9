use Rattle.std.proofs.Common.{ℕ, ◌-◌, ◌/◌, ◌<◌, ◌∙◌, length, take, ap, subst, arith}
use Rattle.std.proofs.lemmas.List.{take_at}
use Rattle.speedy_write.specs.CollectorLemmas.{vec_nothing}
use Rattle.speedy_write.specs.CollectorModels.{vec_model}
use Rattle.speedy_write.proofs.FixedLemmas.{put_in_vec, none_put}
use Rattle.speedy_write.proofs.collectors.VecCollectorWriter.put_fixed.Goals as goal

pub returns-then-values-room-clause-puts : goal.returns-then-values-room-clause-puts
returns-then-values-room-clause-puts g c =
    let w = c.args.self.now in
    let past = subst (λ (n : ℕ). (w.most - w.position) / n < length c.args.values.now) c.BYTES.ensures
    c.if-values-room.true in
    none_put g.T.Layout.layout.laws g.T.Layout.seen c.args.values.now c.has_few_bytes.ensures.least
    c.has_few_bytes.ensures.few.0 past c.error_end_of_output_buffer.ensures (vec_nothing (vec_model w).bytes)

pub returns-clause-puts : goal.returns-clause-puts
returns-clause-puts g c =
    let w = c.args.self.now in
    let same = c.as_mut_slice.ensures.value in
    let same_length = c.as_mut_slice.ensures.len in
    let short = c.reach.ensures.length.1 in
    put_in_vec {mode = g.C.Context.mode w.context.now} g.T.Layout.layout.laws g.T.Layout.seen
    c.args.values.now c.endianness-order.ensures c.put_values_at-self.ensures w.bytes.now.items _ (omega arith)
    (ap (take w.position) same ∙ c.reach.ensures.bytes w.position w.has_room.0)
    (take_at _ _ _ (c.put_values_at-self.auto.buffer ∙ same_length))
