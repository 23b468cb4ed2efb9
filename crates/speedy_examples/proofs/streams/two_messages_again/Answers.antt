use Rattle.std.proofs.Common.{◌++◌, ◌∙◌, ap, refl, inl}
use Rattle.std.proofs.lemmas.Result.{IfErr-weaker}
use Rattle.speedy_examples.proofs.streams.two_messages_again.Goals as goal

pub returns : goal.returns
returns c =
    let first = c.in_ok-write_to_stream.ensures.written in
    let second = c.in_ok-write_to_stream-2.ensures.written in
    let taken = c.bytes.ensures ∙ (second.2.taken_is refl ∙ ap (λ bytes. bytes ++ second.0)
    (first.2.taken_is refl ∙ ap (λ bytes. bytes ++ first.0) c.new-sink.ensures.empty)) in
    let again = c.two_messages.ensures in
    record {
      same = again.same _ _ first.0 second.0 first.1.is_written second.1.is_written taken;
      refused = λ _ _. IfErr-weaker c.two_messages.result _ _ (λ e memory. inl memory)
          (again.refused _ _ first.0 second.0 first.1.is_written second.1.is_written taken);
    }
