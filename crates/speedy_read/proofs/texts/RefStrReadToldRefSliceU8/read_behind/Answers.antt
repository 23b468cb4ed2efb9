use Rattle.std.proofs.Common.{List, ℕ, refl}
use Rattle.speedy_read.specs.Sequences.{refused_first, refused_second, second_decides}
use Rattle.speedy_read.proofs.LentLemmas.{str_composes, text_lent, text_not_lent}
use Rattle.speedy_read.proofs.texts.RefStrReadToldRefSliceU8.read_behind.Goals as goal

pub returns-in_err-length-clause-reads : goal.returns-in_err-length-clause-reads
returns-in_err-length-clause-reads g c =
    refused_first (str_composes g.N.Prefix.numbers _) c.from_residual.ensures.1 c.in_err-length.ensures

pub returns-in_err-bytes-clause-reads : goal.returns-in_err-bytes-clause-reads
returns-in_err-bytes-clause-reads g c =
    let number = c.in_ok-length.ensures in
    refused_second (str_composes g.N.Prefix.numbers _) (g.N.Prefix.numbers.codec.laws _) {A = List ℕ} {seen = λ t. t}
    number c.from_residual-in_err-bytes.ensures.1 (text_not_lent _ _ refl c.in_err-bytes.ensures.reads)

pub returns-clause-reads : goal.returns-clause-reads
returns-clause-reads g c =
    let number = c.in_ok-length.ensures in
    second_decides (str_composes g.N.Prefix.numbers _) (g.N.Prefix.numbers.codec.laws _) number
    (text_lent _ _ c.bytes_to_str.ensures c.in_ok-bytes.ensures.reads) (λ _. refl)
