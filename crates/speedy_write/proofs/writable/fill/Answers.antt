use Rattle.std.proofs.Common.{[], ◌∷◌, refl, ap, arith}
use Rattle.speedy_layout.specs.Wholes.{whole_laws}
use Rattle.speedy_write.specs.CollectorModels.{buffer_model}
use Rattle.speedy_write.proofs.FillLemmas.{fill_succeeds, fill_stands}
use Rattle.speedy_write.proofs.writable.fill.Goals as goal

pub returns-clause-succeeds : goal.returns-clause-succeeds
returns-clause-succeeds g c =
    let made = c.for_use-collector.ensures in
    let model = buffer_model c.for_use-collector.result in
    fill_succeeds {targets = model.context_name ∷ model.buffer_name ∷ []} (ap g.C.Context.mode made.context)
    made.buffer made.position _ c.write_to-outcome.result c.requires.1 c.requires.2 refl c.write_to-outcome.ensures

pub returns-clause-stands : goal.returns-clause-stands
returns-clause-stands g c =
    let made = c.for_use-collector.ensures in
    let model = buffer_model c.for_use-collector.result in
    let fixed = c.write_to-outcome.ensures.kept.fixed in
    let same_name = made.same_buffer in
    let finished = c.finish.ensures.buffer in
    fill_stands {targets = model.context_name ∷ model.buffer_name ∷ []} (ap g.C.Context.mode made.context)
    made.buffer made.position c.write_to-outcome.result (λ mode. whole_laws (g.T.Layout.layout.laws mode))
    (returns-clause-succeeds g c)
    (grind arith) c.write_to-outcome.ensures
