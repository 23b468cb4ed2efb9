use Rattle.std.proofs.Common.{[], ◌∷◌, refl, ap}
use Rattle.speedy_write.specs.CollectorModels.{buffer_model}
use Rattle.speedy_write.proofs.FillLemmas.{refused_too_long}
use Rattle.speedy_write.proofs.filling.fill_prefix.Goals.{in-Ok, in-Err}
use Rattle.speedy_write.proofs.filling.fill_prefix.Goals as goal

pub returns-clause-refuses : goal.returns-clause-refuses
returns-clause-refuses g c =
    let made = c.for_use-collector.ensures in
    let model = buffer_model c.for_use-collector.result in
    elim c.match-outcome.branch [
      | in-Ok w ↦ rw w.result-is tt
      | in-Err w ↦ rw w.result-is (refused_too_long {targets = model.context_name ∷ model.buffer_name ∷ []}
          (ap g.C.Context.mode made.context) made.buffer made.position refl
          (rw w.in-Err.is at c.write_to-outcome.ensures))
    ]
