use Rattle.std.proofs.Common.{◌∙◌}
use Rattle.speedy_read.proofs.UntilEndLemmas.{refused_until_end, got_until_end}
use Rattle.speedy_read.proofs.reader.LendingReader.read_cow_until_eof.Goals as goal

pub returns-in_err-read_vec_until_eof : goal.returns-in_err-read_vec_until_eof
returns-in_err-read_vec_until_eof g c = refused_until_end c.from_residual.ensures.1 c.in_err-read_vec_until_eof.ensures

pub returns : goal.returns
returns g c = got_until_end (λ items is. c.from_values.ensures ∙ is) c.in_ok-read_vec_until_eof.ensures
