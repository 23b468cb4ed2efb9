use Rattle.std.specs.Prelude.{ℕ}
use Rattle.std.proofs.Common.{rules, inl, inr, refl}
use Rattle.speedy.specs.Layers.{its_layer, layer_of, levels_above, list_layer, own_layer, pair_layer}
use Rattle.speedy.specs.WriteLayers.{none_written}
use Rattle.speedy.specs.TaggedLayers.{either_branch, one_branch, unit_branch, tag_unwritten, tagged_written}
use Rattle.speedy.specs.TaggedLayers.{unit_written}
use Rattle.speedy_derived.specs.declared.recursive.Json.{the_lemmas}
use Rattle.speedy_derived.specs.declared.recursive.JsonLevel.{the_lemmas as level_lemmas, fold-JsonLevel}
use Rattle.speedy_derived.proofs.recursive.JsonLevelWriteLevelJson.+write_level.Goals as goal

pub returns-in_default : goal.returns-in_default
returns-in_default g t c =
    let level = c.in_default.is in
    none_written _ _ (search (rules, level_lemmas)) c.error_out_of_range_length.ensures (g.met.W.Writer.nothing _)

pub returns-in-Null : goal.returns-in-Null
unfolding its_layer layer_of list_layer own_layer pair_layer either_branch one_branch unit_branch
returns-in-Null g t c =
    let level = c.in-Some.is in
    let left = fold-JsonLevel ℕ (λ level. levels_above level.0) c.in-Some.below.now in
    unit_written _ _ _ left g.W.Writer.state g.W.Writer.appends 0
    (inl (inl (tt {0}))) refl
    (g.met.W.Writer.additive _ _ _) (g.met.W.Writer.nothing _) c.write_number.ensures (refl, refl)
    (search (rules, level_lemmas)) (search (rules, the_lemmas))

pub returns-in_err-write_number-in-Bool : goal.returns-in_err-write_number-in-Bool
unfolding its_layer layer_of list_layer own_layer pair_layer either_branch one_branch unit_branch
returns-in_err-write_number-in-Bool g t c =
    let level = c.in-Some.is in
    let left = fold-JsonLevel ℕ (λ level. levels_above level.0) c.in-Some.below.now in
    tag_unwritten _ _ _ left g.W.Writer.state g.W.Writer.appends 1
    (inl (inr (inl c.in-Bool.t0))) refl
    c.from_residual.ensures.1 c.in_err-write_number-in-Bool.ensures
    (search (rules, level_lemmas)) (search (rules, the_lemmas))

pub returns-in_ok-write_number-in-Bool : goal.returns-in_ok-write_number-in-Bool
unfolding its_layer layer_of list_layer own_layer pair_layer either_branch one_branch unit_branch
returns-in_ok-write_number-in-Bool g t c =
    let level = c.in-Some.is in
    let left = fold-JsonLevel ℕ (λ level. levels_above level.0) c.in-Some.below.now in
    tagged_written _ _ _ left g.W.Writer.state g.W.Writer.appends 1
    (inl (inr (inl c.in-Bool.t0))) refl
    (g.met.W.Writer.additive _ _ _) (g.met.W.Writer.nothing _)
    c.in_ok-write_number-in-Bool.ensures c.write_value.ensures
    (search (rules, level_lemmas)) (search (rules, the_lemmas))

pub returns-in_err-write_number-in-Number : goal.returns-in_err-write_number-in-Number
unfolding its_layer layer_of list_layer own_layer pair_layer either_branch one_branch unit_branch
returns-in_err-write_number-in-Number g t c =
    let level = c.in-Some.is in
    let left = fold-JsonLevel ℕ (λ level. levels_above level.0) c.in-Some.below.now in
    tag_unwritten _ _ _ left g.W.Writer.state g.W.Writer.appends 2
    (inl (inr (inr c.in-Number.t0))) refl
    c.from_residual-in_err-write_number-in-Number.ensures.1 c.in_err-write_number-in-Number.ensures
    (search (rules, level_lemmas)) (search (rules, the_lemmas))

pub returns-in_ok-write_number-in-Number : goal.returns-in_ok-write_number-in-Number
unfolding its_layer layer_of list_layer own_layer pair_layer either_branch one_branch unit_branch
returns-in_ok-write_number-in-Number g t c =
    let level = c.in-Some.is in
    let left = fold-JsonLevel ℕ (λ level. levels_above level.0) c.in-Some.below.now in
    tagged_written _ _ _ left g.W.Writer.state g.W.Writer.appends 2
    (inl (inr (inr c.in-Number.t0))) refl
    (g.met.W.Writer.additive _ _ _) (g.met.W.Writer.nothing _)
    c.in_ok-write_number-in-Number.ensures c.write_value-in-Number.ensures
    (search (rules, level_lemmas)) (search (rules, the_lemmas))

pub returns-in_err-write_number-in-Text : goal.returns-in_err-write_number-in-Text
unfolding its_layer layer_of list_layer own_layer pair_layer either_branch one_branch unit_branch
returns-in_err-write_number-in-Text g t c =
    let level = c.in-Some.is in
    let left = fold-JsonLevel ℕ (λ level. levels_above level.0) c.in-Some.below.now in
    tag_unwritten _ _ _ left g.W.Writer.state g.W.Writer.appends 3
    (inr (inl c.in-Text.t0)) refl
    c.from_residual-in_err-write_number-in-Text.ensures.1 c.in_err-write_number-in-Text.ensures
    (search (rules, level_lemmas)) (search (rules, the_lemmas))

pub returns-in_ok-write_number-in-Text : goal.returns-in_ok-write_number-in-Text
unfolding its_layer layer_of list_layer own_layer pair_layer either_branch one_branch unit_branch
returns-in_ok-write_number-in-Text g t c =
    let level = c.in-Some.is in
    let left = fold-JsonLevel ℕ (λ level. levels_above level.0) c.in-Some.below.now in
    tagged_written _ _ _ left g.W.Writer.state g.W.Writer.appends 3
    (inr (inl c.in-Text.t0)) refl
    (g.met.W.Writer.additive _ _ _) (g.met.W.Writer.nothing _)
    c.in_ok-write_number-in-Text.ensures c.write_value-in-Text.ensures
    (search (rules, level_lemmas)) (search (rules, the_lemmas))

pub returns-in_err-write_number-in-List : goal.returns-in_err-write_number-in-List
unfolding its_layer layer_of list_layer own_layer pair_layer either_branch one_branch unit_branch
returns-in_err-write_number-in-List g t c =
    let level = c.in-Some.is in
    let left = fold-JsonLevel ℕ (λ level. levels_above level.0) c.in-Some.below.now in
    tag_unwritten _ _ _ left g.W.Writer.state g.W.Writer.appends 4
    (inr (inr (inl c.in-List.t0))) refl
    c.from_residual-in_err-write_number-in-List.ensures.1 c.in_err-write_number-in-List.ensures
    (search (rules, level_lemmas)) (search (rules, the_lemmas))

pub returns-in_ok-write_number-in-List : goal.returns-in_ok-write_number-in-List
unfolding its_layer layer_of list_layer own_layer pair_layer either_branch one_branch unit_branch
returns-in_ok-write_number-in-List g t c =
    let level = c.in-Some.is in
    let left = fold-JsonLevel ℕ (λ level. levels_above level.0) c.in-Some.below.now in
    tagged_written _ _ _ left g.W.Writer.state g.W.Writer.appends 4
    (inr (inr (inl c.in-List.t0))) refl
    (g.met.W.Writer.additive _ _ _) (g.met.W.Writer.nothing _)
    c.in_ok-write_number-in-List.ensures c.write_below.ensures
    (search (rules, level_lemmas)) (search (rules, the_lemmas))

pub returns-in_err-write_number-in-Object : goal.returns-in_err-write_number-in-Object
unfolding its_layer layer_of list_layer own_layer pair_layer either_branch one_branch unit_branch
returns-in_err-write_number-in-Object g t c =
    let level = c.in-Some.is in
    let left = fold-JsonLevel ℕ (λ level. levels_above level.0) c.in-Some.below.now in
    tag_unwritten _ _ _ left g.W.Writer.state g.W.Writer.appends 5
    (inr (inr (inr c.in-Object.t0))) refl
    c.from_residual-in_err-write_number-in-Object.ensures.1 c.in_err-write_number-in-Object.ensures
    (search (rules, level_lemmas)) (search (rules, the_lemmas))

pub returns-in_ok-write_number-in-Object : goal.returns-in_ok-write_number-in-Object
unfolding its_layer layer_of list_layer own_layer pair_layer either_branch one_branch unit_branch
returns-in_ok-write_number-in-Object g t c =
    let level = c.in-Some.is in
    let left = fold-JsonLevel ℕ (λ level. levels_above level.0) c.in-Some.below.now in
    tagged_written _ _ _ left g.W.Writer.state g.W.Writer.appends 5
    (inr (inr (inr c.in-Object.t0))) refl
    (g.met.W.Writer.additive _ _ _) (g.met.W.Writer.nothing _)
    c.in_ok-write_number-in-Object.ensures c.write_below-in-Object.ensures
    (search (rules, level_lemmas)) (search (rules, the_lemmas))
