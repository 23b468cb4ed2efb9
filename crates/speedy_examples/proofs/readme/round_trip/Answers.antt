use Rattle.std.proofs.Common.{sym, ◌∙◌}
use Rattle.std.proofs.lemmas.List.{map-id}
use Rattle.std.proofs.lemmas.Result.{IfOk-weaker}
use Rattle.speedy.specs.Error.{passed_on}
use Rattle.speedy_examples.proofs.NumberLemmas.{only_memory}
use Rattle.speedy_examples.proofs.readme.round_trip.Goals as goal

pub returns-in_err-bytes-clause-refused : goal.returns-in_err-bytes-clause-refused
returns-in_err-bytes-clause-refused c =
    λ few. rw (← passed_on _ _ c.from_residual.ensures.1) (only_memory _ c.args.numbers.now.items
    (λ i below. c.type_inv.numbers i 0 below) few c.in_err-bytes.ensures.refused)

pub returns-clause-same : goal.returns-clause-same
returns-clause-same c =
    let same =
    (c.written_is_answered.ensures.whole c.in_ok-bytes.ensures.written.is_written c.deref.ensures.value
    c.read_from_buffer_with_ctx.ensures.1).same in
    IfOk-weaker c.read_from_buffer_with_ctx.result _ _
    (λ again e. sym (map-id again.items) ∙ (e ∙ map-id c.args.numbers.now.items)) same

pub returns-clause-refused : goal.returns-clause-refused
returns-clause-refused c = λ few. (c.written_is_answered.ensures.whole c.in_ok-bytes.ensures.written.is_written
    c.deref.ensures.value c.read_from_buffer_with_ctx.ensures.1).refused
