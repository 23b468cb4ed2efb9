use Rattle.std.proofs.Common.{refl}
use Rattle.speedy_layout.specs.Texts.{raw_bytes}
use Rattle.speedy_read.specs.ReadingLemmas.{Reads-passed}
use Rattle.speedy_read.proofs.LentLemmas.{slices_show, borrowed_read, not_lent}
use Rattle.speedy_read.proofs.lent.read_lent.Goals as goal

pub returns-in_default-clause-reads : goal.returns-in_default-clause-reads
returns-in_default-clause-reads g c =
    let none = c.in_default.ensures in
    not_lent _ (λ l. slices_show (none.0 l)) none.1 c.error_unsized.ensures

pub returns-in_err-bytes-clause-reads : goal.returns-in_err-bytes-clause-reads
unfolding raw_bytes
returns-in_err-bytes-clause-reads g c =
    Reads-passed c.from_residual.ensures.1 (borrowed_read _ refl (rw c.in_err-bytes.was at c.in-Some.ensures.1))

pub returns-clause-reads : goal.returns-clause-reads
unfolding raw_bytes
returns-clause-reads g c = borrowed_read _ refl (rw c.in_ok-bytes.was at c.in-Some.ensures.1)
