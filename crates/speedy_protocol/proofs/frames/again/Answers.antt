use Rattle.std.proofs.Common.{[], ◌++◌, ◌∙◌, sym, inl, inr}
use Rattle.std.proofs.lemmas.List.{append-nil}
use Rattle.speedy_protocol.proofs.frames.again.Goals as goal

pub returns-in-Err-clause-refused : goal.returns-in-Err-clause-refused
returns-in-Err-clause-refused c = elim c.in-Err.ensures.refused [ inl memory ↦ inl memory | inr none ↦ inr none.0 ]

pub returns-in-Ok-decode-clause-same : goal.returns-in-Ok-decode-clause-same
returns-in-Ok-decode-clause-same c =
    let written = c.written_is_shortest.ensures.encodes _ _ _ c.in-Ok.ensures.written.is_written in
    let read = c.in-Ok-decode.ensures.message in
    let whole = append-nil _ ∙ (sym c.deref.ensures.value ∙ read.2) in
    sym (c.one_prefix.ensures _ _ _ _ [] read.0 _ written read.1 whole).0

-- what was encoded begins with a message
pub returns-in-Err-decode-clause-refused : goal.returns-in-Err-decode-clause-refused
returns-in-Err-decode-clause-refused c =
    let written = c.written_is_shortest.ensures.encodes _ _ _ c.in-Ok.ensures.written.is_written in
    elim c.in-Err-decode.ensures.refused [
      | inl memory ↦ inl memory.0
      | inr why ↦ absurd (why.none _ [] (_, written, c.deref.ensures.value ∙ sym (append-nil _)))
    ]
