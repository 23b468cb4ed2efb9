use Rattle.std.proofs.Common.{refl}
use Rattle.speedy_write.specs.Sequences.{is_sequence, first_refused, second_written}
use Rattle.speedy_write.proofs.CaseLemmas.{case_written}
use Rattle.speedy_write.proofs.cases.write_tagged.Goals as goal

pub returns-in_err-write_number : goal.returns-in_err-write_number
returns-in_err-write_number g c =
    first_refused is_sequence refl c.from_residual.ensures.1 (rw c.tag.ensures at c.in_err-write_number.ensures)

pub returns : goal.returns
returns g c =
    second_written is_sequence refl g.N.Prefix.numbers.codec.laws (g.met.W.Writer.additive _ _ _)
    (rw c.tag.ensures at c.in_ok-write_number.ensures) (case_written _ _ _ _ _ (g.met.W.Writer.nothing _)
    c.write_case.ensures)
