use Rattle.std.proofs.Common.{refl}
use Rattle.speedy_write.specs.Sequences.{is_sequence, first_refused, second_written, Writes-from}
use Rattle.speedy_write.proofs.CountLemmas.{context_back}
use Rattle.speedy_write.proofs.FrameLemmas.{frame_written, frame_uncounted, counted_below}
use Rattle.speedy_write.proofs.frames.FramedWriteTold.write_behind.Goals as goal

pub returns-in_err-length : goal.returns-in_err-length
returns-in_err-length g c =
    let W = g.met.W.Writer in
    let suffix = context_back g.W.Writer.at g.C.Context.mode W.mode_at W.state_with W.nothing W.additive
    W.appends_with c.args.writer.now _ _ _ c.context_mut.ensures.value c.in_err-length.ensures.mode refl in
    Writes-from suffix.0.state_is (λ b. suffix.0.joins b _)
    (frame_uncounted g.N.Prefix.numbers g.T.Whole.whole c.from_residual.ensures.1
    (rw suffix.1 at c.in_err-length.ensures.needs) (W.nothing _))

pub returns-in_err-write_number : goal.returns-in_err-write_number
returns-in_err-write_number g c =
    let W = g.met.W.Writer in
    let suffix = context_back g.W.Writer.at g.C.Context.mode W.mode_at W.state_with W.nothing W.additive
    W.appends_with c.args.writer.now _ _ _ c.context_mut.ensures.value c.in_ok-length.ensures.mode refl in
    let needs = rw suffix.1 at c.in_ok-length.ensures.needs in
    Writes-from suffix.0.state_is (λ b. suffix.0.joins b _)
    (frame_written g.N.Prefix.numbers g.T.Whole.whole needs.written (counted_below needs)
    (first_refused is_sequence refl c.from_residual-in_err-write_number.ensures.1 c.in_err-write_number.ensures))

pub returns : goal.returns
returns g c =
    let W = g.met.W.Writer in
    let suffix = context_back g.W.Writer.at g.C.Context.mode W.mode_at W.state_with W.nothing W.additive
    W.appends_with c.args.writer.now _ _ _ c.context_mut.ensures.value c.in_ok-length.ensures.mode refl in
    let needs = rw suffix.1 at c.in_ok-length.ensures.needs in
    Writes-from suffix.0.state_is (λ b. suffix.0.joins b _)
    (frame_written g.N.Prefix.numbers g.T.Whole.whole needs.written (counted_below needs)
    (second_written is_sequence refl g.N.Prefix.numbers.codec.laws (W.additive _ _ _) c.in_ok-write_number.ensures
    c.write_counted_value.ensures))
