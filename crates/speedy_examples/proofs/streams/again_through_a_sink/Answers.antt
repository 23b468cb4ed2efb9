use Rattle.std.proofs.Common.{◌++◌, ◌∙◌, ap, refl, inl}
use Rattle.std.proofs.lemmas.Result.{IfErr-weaker}
use Rattle.speedy_examples.proofs.streams.again_through_a_sink.Goals as goal

pub returns : goal.returns
returns c =
    let written = c.in_ok-write_to_stream_with_ctx.ensures.written in
    let taken =
    c.bytes-bytes.ensures ∙ (written.2.taken_is refl ∙ ap (λ bytes. bytes ++ written.0) c.new-sink.ensures.empty) in
    let again = c.written_is_answered.ensures.whole written.1.is_written taken c.read_from_buffer_with_ctx.ensures.1 in
    record {
      same = again.same;
      refused = λ _. IfErr-weaker c.read_from_buffer_with_ctx.result _ _ (λ e memory. inl memory) again.refused;
    }
