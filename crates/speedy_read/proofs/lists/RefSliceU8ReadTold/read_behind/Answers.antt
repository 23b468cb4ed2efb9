use Rattle.std.proofs.Common.{Bor, List, ℕ}
use Rattle.std.proofs.lemmas.List.{map-id}
use Rattle.speedy_read.specs.Sequences.{refused_first, second_decides}
use Rattle.speedy_read.proofs.LentLemmas.{borrowed_items_compose, items_lent}
use Rattle.speedy_read.proofs.lists.RefSliceU8ReadTold.read_behind.Goals as goal

pub returns-in_err-length-clause-reads : goal.returns-in_err-length-clause-reads
returns-in_err-length-clause-reads g c =
    refused_first (borrowed_items_compose g.N.Prefix.numbers _ _) c.from_residual.ensures.1 c.in_err-length.ensures

pub returns-clause-reads : goal.returns-clause-reads
returns-clause-reads g c =
    let lent = c.read_lent.ensures in
    second_decides (borrowed_items_compose g.N.Prefix.numbers _ _) (g.N.Prefix.numbers.codec.laws _)
    {seen = λ (b : Bor (List ℕ)). b.now} c.in_ok-length.ensures (items_lent _ _ lent.range lent.reads)
    (λ b. map-id b.now)
