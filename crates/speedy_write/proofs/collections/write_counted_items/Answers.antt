use Rattle.std.proofs.Common.{sym}
use Rattle.speedy_layout.specs.Sequences.{so_many}
use Rattle.speedy_write.specs.Sequences.{is_sequence, first_refused, second_written}
use Rattle.speedy_write.proofs.collections.write_counted_items.Goals as goal

pub returns-in_err-write_number : goal.returns-in_err-write_number
returns-in_err-write_number g c = λ shown same always.
    first_refused is_sequence (so_many _ shown (sym same)) c.from_residual.ensures.1 c.in_err-write_number.ensures

pub returns : goal.returns
returns g c = λ shown same always.
    second_written is_sequence (so_many _ shown (sym same)) g.N.Prefix.numbers.codec.laws
    (g.met.W.Writer.additive _ _ _) c.in_ok-write_number.ensures
    (rw (sym same) at (c.write_items_of.ensures shown always))
