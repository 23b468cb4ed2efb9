use Rattle.std.proofs.Common.{rules}
use Rattle.speedy.specs.ReadLayers.{none_read, value_read, value_refused}
use Rattle.speedy_derived.specs.declared.recursive.Step.{the_lemmas}
use Rattle.speedy_derived.specs.declared.recursive.StepLevel.{the_lemmas as level_lemmas}
use Rattle.speedy_derived.proofs.recursive.StepLevelReadLevelStep.+read_level.Goals as goal

pub returns-in_default : goal.returns-in_default
returns-in_default g t c =
    let level = c.in_default.is in
    none_read _ _ (search (rules, level_lemmas)) c.error_out_of_range_length.ensures

pub returns-in-Ok : goal.returns-in-Ok
returns-in-Ok g t c =
    let level = c.in-Some.is in
    value_read _ _ _ c.in-Ok.ensures (search (rules, level_lemmas)) (search (rules, the_lemmas))

pub returns-in-Err : goal.returns-in-Err
returns-in-Err g t c =
    let level = c.in-Some.is in
    value_refused _ _ _ c.in-Err.ensures (search (rules, level_lemmas))
