use Rattle.std.proofs.Common.{◌≡◌, ◌++◌, ◌∙◌, [], List, ℕ, ap, sym, arith, rules}
use Rattle.std.proofs.lemmas.Bool.{eqb-true}
use Rattle.std.proofs.lemmas.List.{nil_from_length}
use Rattle.std.proofs.lemmas.Result.{err_from_is_err_and}
use Rattle.speedy.specs.Error.{passed_on}
use Rattle.speedy_lines.proofs.RunLemmas.{whole_line, nothing_waits, no_memory_at_first}
use Rattle.speedy_lines.proofs.program.answer_waiting.Goals as goal

pub returns-then-is_empty : goal.returns-then-is_empty
returns-then-is_empty g c =
    let none : c.args.pending.now.items ≡ [] =
    nil_from_length _ (omega (arith, eqb-true _ 0 (sym c.if-is_empty.ensures))) in
    record {
      waits = nothing_waits c.push_answer.result _ none;
      answers = whole_line _ _ _ _ _ (ap (λ (x : List ℕ). x ++ c.args.line.now) (sym none)) c.push_answer.ensures;
    }

pub returns : goal.returns
returns g c =
    let line = c.in_ok-push_answer.ensures in
    let is : c.deref.result.now ≡ c.extend_from_slice.new.self.items = search rules in
    let longer : c.extend_from_slice.new.self.items ≡ c.args.pending.now.items ++ c.args.line.now = search rules in
    record { waits = c.clear.ensures.items; answers = whole_line _ _ _ _ _ (is ∙ longer) line }

pub returns-in_err-extend_from_slice : goal.returns-in_err-extend_from_slice
returns-in_err-extend_from_slice g c =
    let exit = err_from_is_err_and c.from_residual.result c.from_residual.ensures.1 in
    rw exit.1 (record { waits = tt; answers = no_memory_at_first _ _ _ _ exit.2 })

pub returns-in_err-push_answer : goal.returns-in_err-push_answer
returns-in_err-push_answer g c =
    let is : c.deref.result.now ≡ c.extend_from_slice.new.self.items = search rules in
    let longer : c.extend_from_slice.new.self.items ≡ c.args.pending.now.items ++ c.args.line.now = search rules in
    rw (sym (passed_on c.from_residual-in_err-push_answer.result _ c.from_residual-in_err-push_answer.ensures.1))
    (record { waits = tt; answers = whole_line _ _ _ _ _ (is ∙ longer) c.in_err-push_answer.ensures })
