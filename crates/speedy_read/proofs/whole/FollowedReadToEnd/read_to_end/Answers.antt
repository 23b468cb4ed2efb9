use Rattle.std.proofs.Common.{refl}
use Rattle.speedy_read.proofs.WholeLemmas.{first_not_whole, second_not_whole, both_whole}
use Rattle.speedy_read.proofs.whole.FollowedReadToEnd.read_to_end.Goals as goal

pub returns-in_err-first : goal.returns-in_err-first
returns-in_err-first g c =
    let memory = g.met.R.MemoryReader.in_memory in
    first_not_whole _ _ c.from_residual.ensures.1 (memory _) (memory _) c.in_err-first.ensures

pub returns-in_err-rest : goal.returns-in_err-rest
returns-in_err-rest g c =
    let first = c.in_ok-first.ensures in
    second_not_whole (g.A.Layout.layout.laws _) (g.met.R.MemoryReader.in_memory _) first
    c.from_residual-in_err-rest.ensures.1 (rw first.kept.mode at c.in_err-rest.ensures)

pub returns : goal.returns
returns g c =
    let first = c.in_ok-first.ensures in
    both_whole (g.A.Layout.layout.laws _) (g.met.R.MemoryReader.in_memory _) first
    (rw first.kept.mode at c.in_ok-rest.ensures) refl
