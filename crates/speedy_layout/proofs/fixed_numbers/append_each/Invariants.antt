use Rattle.std.proofs.Common.{◌≡◌, vec_len, vec_capacity}
use Rattle.speedy_layout.specs.FixedNumbers.{encoded_in}
use Rattle.speedy_layout.proofs.FixedNumberLemmas.{Appended}
use Rattle.speedy_layout.proofs.fixed_numbers.append_each.Given as goal

-- all but the rest are appended, and there is room for the numbers of the rest
abbrev pub invariant-loop-digits : goal.invariant-loop-digits
invariant-loop-digits g l =
    (l.digits-iterator.size ≡ g.T.Digits.ByteArray.LENGTH)
    × Appended (encoded_in g.T.Layout.layout.format l.order) g.T.Layout.seen g.T.Digits.ByteArray.LENGTH
    l.initial.numbers.items l.numbers.items l.bytes l.digits-iterator.rest.now (vec_len l.numbers)
    (vec_capacity l.numbers)
