use Rattle.std.proofs.Common.{refl}
use Rattle.speedy_layout.specs.Numbers.{unsigned_number_laws}
use Rattle.speedy_read.specs.Sequences.{refused_first, second_decides}
use Rattle.speedy_read.proofs.LentLemmas.{borrowed_list_composes}
use Rattle.speedy.proofs.EncodedReadLemmas.{restated}
use Rattle.speedy.proofs.encoded.EncodedListReadFromRefSliceU8.read_from.Goals as goal

pub returns-in_err-count-clause-reads : goal.returns-in_err-count-clause-reads
returns-in_err-count-clause-reads g c =
    refused_first (borrowed_list_composes _ _) c.from_residual.ensures.1 c.in_err-count.ensures

pub returns-clause-reads : goal.returns-clause-reads
returns-clause-reads g c =
    second_decides (borrowed_list_composes _ _) (unsigned_number_laws 4 _) {seen = λ it. it.decoded.0}
    c.in_ok-count.ensures (restated g.T.InPlace.in_place.codec.format c.in_ok-count.field-0
    c.in_ok-count.ensures.kept.mode refl c.read_items.ensures.reads) (λ _. refl)
