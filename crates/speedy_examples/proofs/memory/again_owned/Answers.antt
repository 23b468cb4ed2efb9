use Rattle.speedy_examples.proofs.memory.again_owned.Goals as goal

pub returns : goal.returns
returns g c =
    let again = c.written_is_answered.ensures.whole c.in_ok-bytes.ensures.written.is_written c.deref.ensures.value
    c.read_owned_with_ctx.ensures.1 in
    record { same = again.same; refused = λ _. again.refused }
