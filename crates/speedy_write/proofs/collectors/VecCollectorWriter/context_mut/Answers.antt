use Rattle.std.proofs.Common.{◌≡◌, ◌∙◌, ℕ, ◌≤◌, refl, ap, ap₂}
use Rattle.std.proofs.Math.Bridge.{le_prop}
use Rattle.speedy_write.proofs.collectors.VecCollectorWriter.context_mut.Goals as goal

in_order : {a b c d : ℕ} (h k : (a ≤ b) × (b ≤ c) × (c ≤ d)) → h ≡ k
in_order h k = ap (λ x. (x, h.1, h.2)) (le_prop h.0 k.0) ∙ ap₂ (λ x y. (k.0, x, y)) (le_prop h.1 k.1) (le_prop h.2 k.2)

-- what the vector has of room has one proof, so the context alone differs
pub returns : goal.returns
returns g c = (
  (
    refl,
    λ w. ap (λ h. record c.args.self.now {
      context = record c.args.self.now.context { now = w };
      has_room = h;
    }) (in_order _ c.args.self.now.has_room),
  ),
  record { writes_back = tt; value = refl },
)
