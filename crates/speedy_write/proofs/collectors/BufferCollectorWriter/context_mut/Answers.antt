use Rattle.std.proofs.Common.{refl, ap}
use Rattle.std.proofs.Math.Bridge.{le_prop}
use Rattle.speedy_write.proofs.collectors.BufferCollectorWriter.context_mut.Goals as goal

-- what the buffer has of its position has one proof, so the context alone differs
pub returns : goal.returns
returns g c = (
  (
    refl,
    λ w. ap (λ h. record c.args.self.now {
      context = record c.args.self.now.context { now = w };
      in_range = h;
    }) (le_prop _ c.args.self.now.in_range),
  ),
  record { writes_back = tt; value = refl },
)
