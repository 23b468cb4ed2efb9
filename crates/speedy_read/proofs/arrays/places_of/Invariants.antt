use Rattle.std.proofs.Common.{◌≡◌, ◌+◌, ◌*◌, ◌≤◌, ◌++◌, ℕ, List, length, map, vec_capacity}
use Rattle.speedy_layout.specs.FixedNumbers.{encoded_in}
use Rattle.speedy_layout.specs.Format.{Each}
use Rattle.speedy_layout.specs.Lists.{vector}
use Rattle.speedy_read.proofs.arrays.places_of.Given as goal

-- all but the rest are taken
abbrev pub invariant-loop-i : goal.invariant-loop-i
invariant-loop-i g l =
    (length l.all.items ≡ l._i) × (l.count ≤ vec_capacity l.all) × (length l.rest + l._i * l.width ≡ l.count * l.width)
    × (done : List ℕ) × (l.digits ≡ done ++ l.rest)
    × Each (encoded_in (λ e. vector g.P.Places.count (g.T.Layout.layout.format e)) l.order)
    (map (λ p. map g.T.Layout.seen (g.P.Places.shown p)) l.all.items) done
