use Rattle.std.proofs.Common.{◌≡◌, ◌*◌, length, map, take}
use Rattle.speedy_layout.specs.FixedNumbers.{encoded_in}
use Rattle.speedy_layout.specs.Format.{Each}
use Rattle.speedy_layout.proofs.fixed_numbers.take_each.Given as goal

-- the first places have their numbers
abbrev pub invariant-loop-place : goal.invariant-loop-place
invariant-loop-place g l =
    (l.at ≡ l.place-index * g.T.Digits.ByteArray.LENGTH) × (length l.places ≡ length l.initial.places)
    × Each (encoded_in g.T.Layout.layout.format l.order) (map g.T.Layout.seen (take l.place-index l.places))
    (take l.at l.bytes)
