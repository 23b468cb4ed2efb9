use Rattle.std.specs.Prelude.{◌≡◌, ◌≤◌, ◌-◌, ◌*◌, ◌++◌, List, map, take}
use Rattle.speedy_layout.specs.FixedNumbers.{encoded_in}
use Rattle.speedy_layout.specs.Format.{Each}
use Rattle.speedy_read.proofs.room.append_in_steps.Given as goal

-- the first numbers stand behind those that were there
abbrev pub invariant-loop-at : goal.invariant-loop-at
invariant-loop-at g l =
    (l.at ≤ l.count) × ((more : List g.row.T.Denot) × (l.numbers.items ≡ l.initial.numbers.items ++ more)
    × Each (encoded_in g.T.Layout.layout.format l.order) (map g.T.Layout.seen more)
    (take (l.at * g.T.Digits.ByteArray.LENGTH) l.digits))

abbrev pub decreases-loop-at : goal.decreases-loop-at
decreases-loop-at g l = l.count - l.at
