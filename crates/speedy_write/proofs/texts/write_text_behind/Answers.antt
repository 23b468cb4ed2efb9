use Rattle.std.proofs.Common.{refl}
use Rattle.speedy_write.specs.BehindCounts.{counts_bytes}
use Rattle.speedy_write.specs.Sequences.{is_sequence, first_refused, second_written}
use Rattle.speedy_write.proofs.texts.write_text_behind.Goals as goal

pub returns-in_err-write_number : goal.returns-in_err-write_number
returns-in_err-write_number g c =
    first_refused is_sequence (counts_bytes _ _ refl) c.from_residual.ensures.1 c.in_err-write_number.ensures

pub returns : goal.returns
returns g c =
    second_written is_sequence (counts_bytes _ _ refl) g.N.Prefix.numbers.codec.laws (g.met.W.Writer.additive _ _ _)
    c.in_ok-write_number.ensures c.write_text_alone.ensures
