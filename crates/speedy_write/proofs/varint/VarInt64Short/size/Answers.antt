use Rattle.std.proofs.Common.{arith, sym, take, length-take-le}
use Rattle.speedy_write.proofs.varint.VarInt64Short.size.Goals as goal

pub returns-clause-takes : goal.returns-clause-takes
returns-clause-takes c mode =
    let made = c.encode-count.result in
    let nine = c.encode-count.ensures.nine_at_most in (
      take made.1 made.0,
      c.encode-count.ensures.written mode,
      sym (length-take-le _ _ (omega (arith, nine, c.encode-count.type_inv))),
    )
