use Rattle.std.proofs.Common.{rules}
use Rattle.speedy.specs.Layers.{its_layer, layer_of, list_layer, option_layer, own_layer, owned_layer, pair_layer}
use Rattle.speedy.specs.WriteLayers.{none_written, value_written}
use Rattle.speedy_derived.specs.declared.recursive.StepLevel.{the_lemmas as level_lemmas}
use Rattle.speedy_derived.proofs.recursive.StepLevelWriteLevelStep.+write_level.Goals as goal

pub returns-in_default : goal.returns-in_default
returns-in_default g t c =
    let level = c.in_default.is in
    none_written _ _ (search (rules, level_lemmas)) c.error_out_of_range_length.ensures (g.met.W.Writer.nothing _)

pub returns : goal.returns
unfolding its_layer layer_of list_layer option_layer own_layer owned_layer pair_layer
returns g t c =
    let level = c.in-Some.is in
    value_written _ _ c.write_below.ensures (search (rules, level_lemmas))
