use Rattle.speedy_examples.proofs.memory.again.Goals as goal

pub returns : goal.returns
returns c =
    let again = c.written_is_answered.ensures.whole c.in_ok-bytes.ensures.written.is_written c.deref.ensures.value
    c.read_from_buffer_with_ctx.ensures.1 in
    record { same = again.same; refused = λ _. again.refused }
