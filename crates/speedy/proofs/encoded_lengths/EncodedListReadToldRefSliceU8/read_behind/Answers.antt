use Rattle.std.proofs.Common.{refl}
use Rattle.speedy_read.specs.Sequences.{refused_first, second_decides}
use Rattle.speedy_read.proofs.LentLemmas.{borrowed_items_compose}
use Rattle.speedy.proofs.EncodedReadLemmas.{restated}
use Rattle.speedy.proofs.encoded_lengths.EncodedListReadToldRefSliceU8.read_behind.Goals as goal

pub returns-in_err-count-clause-reads : goal.returns-in_err-count-clause-reads
returns-in_err-count-clause-reads g c =
    refused_first (borrowed_items_compose g.N.Prefix.numbers _ _) c.from_residual.ensures.1 c.in_err-count.ensures

pub returns-clause-reads : goal.returns-clause-reads
returns-clause-reads g c =
    second_decides (borrowed_items_compose g.N.Prefix.numbers _ _) (g.N.Prefix.numbers.codec.laws _)
    {seen = λ it. it.decoded.0} c.in_ok-count.ensures (restated g.T.InPlace.in_place.codec.format c.in_ok-count.count
    c.in_ok-count.ensures.kept.mode refl c.read_items.ensures.reads) (λ _. refl)
