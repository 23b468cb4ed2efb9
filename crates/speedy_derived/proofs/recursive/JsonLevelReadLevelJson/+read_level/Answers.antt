use Rattle.std.specs.Prelude.{ℕ}
use Rattle.std.proofs.Common.{rules, inl, inr, refl}
use Rattle.speedy.specs.Layers.{levels_above, own_layer}
use Rattle.speedy.specs.ReadLayers.{none_read}
use Rattle.speedy.specs.TaggedLayers.{either_branch, one_branch, unit_branch, tag_refused, tagged_read, case_refused}
use Rattle.speedy_derived.specs.declared.recursive.Json.{the_lemmas}
use Rattle.speedy_derived.specs.declared.recursive.JsonLevel.{the_lemmas as level_lemmas, fold-JsonLevel}
use Rattle.speedy_derived.proofs.recursive.JsonLevelReadLevelJson.+read_level.Goals as goal

pub returns-in_default : goal.returns-in_default
returns-in_default g t c =
    let level = c.in_default.is in
    none_read _ _ (search (rules, level_lemmas)) c.error_out_of_range_length.ensures

pub returns-in-Err : goal.returns-in-Err
unfolding own_layer either_branch one_branch unit_branch
returns-in-Err g t c =
    let level = c.in-Some.is in
    let left = fold-JsonLevel ℕ (λ level. levels_above level.0) c.in-Some.below.now in
    tag_refused _ _ _ left _ (rw c.in-Err.is at c.read_number.ensures) (search (rules, level_lemmas))

pub returns-in-0 : goal.returns-in-0
unfolding own_layer either_branch one_branch unit_branch
returns-in-0 g t c =
    let level = c.in-Some.is in
    let left = fold-JsonLevel ℕ (λ level. levels_above level.0) c.in-Some.below.now in
    tagged_read _ _ _ left _ 0 refl (rw (c.in-Ok.is, c.in-0.is) at c.read_number.ensures)
    {parts = inl (inl (tt {0}))} (tt {0}, refl) (search (rules, level_lemmas)) (search (rules, the_lemmas))

pub returns-in-Ok-read_value : goal.returns-in-Ok-read_value
unfolding own_layer either_branch one_branch unit_branch
returns-in-Ok-read_value g t c =
    let level = c.in-Some.is in
    let left = fold-JsonLevel ℕ (λ level. levels_above level.0) c.in-Some.below.now in
    let read = rw c.in-Ok-read_value.is at c.read_value.ensures in
    tagged_read _ _ _ left _ 1 refl (rw (c.in-Ok.is, c.in-1.is) at c.read_number.ensures)
    {parts = inl (inr (inl c.in-Ok-read_value.t0))}
    (read.kept, read.answer) (search (rules, level_lemmas)) (search (rules, the_lemmas))

pub returns-in-Err-read_value : goal.returns-in-Err-read_value
unfolding own_layer either_branch one_branch unit_branch
returns-in-Err-read_value g t c =
    let level = c.in-Some.is in
    let left = fold-JsonLevel ℕ (λ level. levels_above level.0) c.in-Some.below.now in
    let read = rw c.in-Err-read_value.is at c.read_value.ensures in
    case_refused _ _ _ left _ 1 refl (rw (c.in-Ok.is, c.in-1.is) at c.read_number.ensures)
    (read.kept, read.answer) (search (rules, level_lemmas))

pub returns-in-Ok-read_value-2 : goal.returns-in-Ok-read_value-2
unfolding own_layer either_branch one_branch unit_branch
returns-in-Ok-read_value-2 g t c =
    let level = c.in-Some.is in
    let left = fold-JsonLevel ℕ (λ level. levels_above level.0) c.in-Some.below.now in
    let read = rw c.in-Ok-read_value-2.is at c.read_value-in-2.ensures in
    tagged_read _ _ _ left _ 2 refl (rw (c.in-Ok.is, c.in-2.is) at c.read_number.ensures)
    {parts = inl (inr (inr c.in-Ok-read_value-2.t0))}
    (read.kept, read.answer) (search (rules, level_lemmas)) (search (rules, the_lemmas))

pub returns-in-Err-read_value-2 : goal.returns-in-Err-read_value-2
unfolding own_layer either_branch one_branch unit_branch
returns-in-Err-read_value-2 g t c =
    let level = c.in-Some.is in
    let left = fold-JsonLevel ℕ (λ level. levels_above level.0) c.in-Some.below.now in
    let read = rw c.in-Err-read_value-2.is at c.read_value-in-2.ensures in
    case_refused _ _ _ left _ 2 refl (rw (c.in-Ok.is, c.in-2.is) at c.read_number.ensures)
    (read.kept, read.answer) (search (rules, level_lemmas))

pub returns-in-Ok-read_value-3 : goal.returns-in-Ok-read_value-3
unfolding own_layer either_branch one_branch unit_branch
returns-in-Ok-read_value-3 g t c =
    let level = c.in-Some.is in
    let left = fold-JsonLevel ℕ (λ level. levels_above level.0) c.in-Some.below.now in
    let read = rw c.in-Ok-read_value-3.is at c.read_value-in-3.ensures in
    tagged_read _ _ _ left _ 3 refl (rw (c.in-Ok.is, c.in-3.is) at c.read_number.ensures)
    {parts = inr (inl c.in-Ok-read_value-3.t0)}
    (read.kept, read.answer) (search (rules, level_lemmas)) (search (rules, the_lemmas))

pub returns-in-Err-read_value-3 : goal.returns-in-Err-read_value-3
unfolding own_layer either_branch one_branch unit_branch
returns-in-Err-read_value-3 g t c =
    let level = c.in-Some.is in
    let left = fold-JsonLevel ℕ (λ level. levels_above level.0) c.in-Some.below.now in
    let read = rw c.in-Err-read_value-3.is at c.read_value-in-3.ensures in
    case_refused _ _ _ left _ 3 refl (rw (c.in-Ok.is, c.in-3.is) at c.read_number.ensures)
    (read.kept, read.answer) (search (rules, level_lemmas))

pub returns-in-Ok-read_below : goal.returns-in-Ok-read_below
unfolding own_layer either_branch one_branch unit_branch
returns-in-Ok-read_below g t c =
    let level = c.in-Some.is in
    let left = fold-JsonLevel ℕ (λ level. levels_above level.0) c.in-Some.below.now in
    let read = rw c.in-Ok-read_below.is at c.read_below.ensures in
    tagged_read _ _ _ left _ 4 refl (rw (c.in-Ok.is, c.in-4.is) at c.read_number.ensures)
    {parts = inr (inr (inl c.in-Ok-read_below.t0))}
    (read.kept, read.answer) (search (rules, level_lemmas)) (search (rules, the_lemmas))

pub returns-in-Err-read_below : goal.returns-in-Err-read_below
unfolding own_layer either_branch one_branch unit_branch
returns-in-Err-read_below g t c =
    let level = c.in-Some.is in
    let left = fold-JsonLevel ℕ (λ level. levels_above level.0) c.in-Some.below.now in
    let read = rw c.in-Err-read_below.is at c.read_below.ensures in
    case_refused _ _ _ left _ 4 refl (rw (c.in-Ok.is, c.in-4.is) at c.read_number.ensures)
    (read.kept, read.answer) (search (rules, level_lemmas))

pub returns-in-Ok-read_below-2 : goal.returns-in-Ok-read_below-2
unfolding own_layer either_branch one_branch unit_branch
returns-in-Ok-read_below-2 g t c =
    let level = c.in-Some.is in
    let left = fold-JsonLevel ℕ (λ level. levels_above level.0) c.in-Some.below.now in
    let read = rw c.in-Ok-read_below-2.is at c.read_below-in-5.ensures in
    tagged_read _ _ _ left _ 5 refl (rw (c.in-Ok.is, c.in-5.is) at c.read_number.ensures)
    {parts = inr (inr (inr c.in-Ok-read_below-2.t0))}
    (read.kept, read.answer) (search (rules, level_lemmas)) (search (rules, the_lemmas))

pub returns-in-Err-read_below-2 : goal.returns-in-Err-read_below-2
unfolding own_layer either_branch one_branch unit_branch
returns-in-Err-read_below-2 g t c =
    let level = c.in-Some.is in
    let left = fold-JsonLevel ℕ (λ level. levels_above level.0) c.in-Some.below.now in
    let read = rw c.in-Err-read_below-2.is at c.read_below-in-5.ensures in
    case_refused _ _ _ left _ 5 refl (rw (c.in-Ok.is, c.in-5.is) at c.read_number.ensures)
    (read.kept, read.answer) (search (rules, level_lemmas))

pub returns-in_default-tag : goal.returns-in_default-tag
unfolding own_layer either_branch one_branch unit_branch
returns-in_default-tag g t c =
    let level = c.in-Some.is in
    let left = fold-JsonLevel ℕ (λ level. levels_above level.0) c.in-Some.below.now in
    case_refused _ _ _ left _ _ refl (rw c.in-Ok.is at c.read_number.ensures)
    (search rules) (search (rules, level_lemmas))
