use Rattle.std.proofs.Common.{◌≤◌, sym, arith}
use Rattle.speedy_layout.specs.Numbers.{unsigned_number_laws}
use Rattle.speedy_read.specs.Codes.{length_refused, length_read, length_unread}
use Rattle.speedy_read.proofs.prefixed.read_length_u7.Goals as goal

pub returns-in_err-length : goal.returns-in_err-length
returns-in_err-length g c = length_refused _ _ c.from_residual.ensures.1 c.in_err-length.ensures

pub returns-then-length-gt-U7_MAX : goal.returns-then-length-gt-U7_MAX
returns-then-length-gt-U7_MAX g c =
    length_unread _ _ (unsigned_number_laws 1 _)
    (λ within. let past = c.if-length-gt-U7_MAX.true in omega arith)
    c.error_out_of_range_length.ensures c.in_ok-length.ensures

pub returns : goal.returns
returns g c =
    let within : c.from.result ≤ 127 =
    let past = c.if-length-gt-U7_MAX.false in
    let same = c.from.ensures in
    omega arith in
    length_read _ _ (sym c.from.ensures, within) c.in_ok-length.ensures
