use Rattle.std.proofs.Common.{◌≡◌, ◌++◌, rules, sym}
use Rattle.std.proofs.lemmas.Result.{err_from_is_err_and}
use Rattle.speedy.specs.Error.{passed_on}
use Rattle.speedy_lines.proofs.RunLemmas.{none_of_piece, more_of_piece, fewer_of_piece, all_of_piece}
use Rattle.speedy_lines.proofs.RunLemmas.{waits_after_piece, line_failed, memory_failed}
use Rattle.speedy_lines.proofs.program.answer_piece.Goals as goal

pub loop-line-init : goal.loop-line-init
loop-line-init g c = none_of_piece _ _ _ c.requires

pub loop-line-preserved : goal.loop-line-preserved
loop-line-preserved g c =
    let line = c.in_ok-answer_waiting.ensures in
    more_of_piece _ _ _ _ _ _ _ _ _ c.loop-line.invariant c.in-Some.ensures _ line.waits line.answers.kept
    line.answers.no_fault line.answers.all

pub loop-line-smaller : goal.loop-line-smaller
loop-line-smaller g c = fewer_of_piece _ _ _ c.in-Some.ensures

pub returns : goal.returns
returns g c =
    let longer : c.extend_from_slice.new.self.items ≡ c.loop-line.pending.items ++ c.loop-line.rest.now =
    search rules in
    record {
      waits = waits_after_piece _ _ _ _ _ _ _ c.loop-line.invariant c.in_default.ensures longer;
      answers = λ more. all_of_piece _ _ _ _ _ _ more _ _ c.loop-line.invariant longer;
    }

pub returns-in_err-extend_from_slice : goal.returns-in_err-extend_from_slice
returns-in_err-extend_from_slice g c =
    let exit = err_from_is_err_and c.from_residual-in_err-extend_from_slice.result
    c.from_residual-in_err-extend_from_slice.ensures.1 in
    rw exit.1 (record { waits = tt; answers = λ more. memory_failed _ _ _ _ _ _ more _ _ c.loop-line.invariant exit.2 })

pub returns-in_err-answer_waiting : goal.returns-in_err-answer_waiting
returns-in_err-answer_waiting g c =
    rw (sym (passed_on c.from_residual.result _ c.from_residual.ensures.1))
    (record {
      waits = tt;
      answers = λ more. line_failed _ _ _ _ _ _ _ _ _ c.loop-line.invariant c.in-Some.ensures _ _ more
          c.in_err-answer_waiting.ensures.answers;
    })
