use Rattle.speedy_examples.proofs.memory.again_in.Goals as goal

pub returns : goal.returns
returns g c =
    let stands = c.in_ok-write_to_buffer_with_ctx.ensures.written in
    let again = c.written_is_answered.ensures.prefix _ stands.is_shortest.is_written stands.new_is
    c.read_from_buffer_with_ctx.ensures.1 in
    record { same = again.same; refused = λ _ _ _ _. again.refused }
