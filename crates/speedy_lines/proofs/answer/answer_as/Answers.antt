use Rattle.std.proofs.Common.{ap, ◌∙◌}
use Rattle.std.proofs.lemmas.Result.{IfOk-weaker}
use Rattle.speedy_lines.specs.Answer.{refused_text}
use Rattle.speedy_lines.proofs.AnswerLemmas.{refusal_answers}
use Rattle.speedy_lines.proofs.answer.answer_as.Goals as goal

pub returns : goal.returns
returns g c =
    let format = g.T.Layout.layout.format (g.C.Context.mode c.args.context) in
    let read = rw c.in-Err.is at c.read_with_length-result.ensures in
    IfOk-weaker c.refused_answer.result _ _
    (λ text is. refusal_answers g.T.Layout.seen g.T.Layout.layout.least format c.in-Err.error _ c.args.bytes.now
    text.items read (λ memory. c.in_default.not-OutOfMemory (c.get_error_kind.ensures ∙ memory))
    (is ∙ ap refused_text c.get_error_kind.ensures))
    c.refused_answer.ensures
