use Rattle.std.proofs.lemmas.List.{map-id}
use Rattle.speedy_read.specs.Codes.{refused_covered}
use Rattle.speedy_read.proofs.TextLemmas.{bytes_cover_text, text_decides}
use Rattle.speedy_read.proofs.reader.LendingReader.read_string.Goals as goal

pub returns-in_err-read_vec : goal.returns-in_err-read_vec
returns-in_err-read_vec g c =
    refused_covered (bytes_cover_text _ _) c.from_residual.ensures.1 c.in_err-read_vec.ensures.reads

pub returns : goal.returns
returns g c = text_decides _ _ (map-id _) c.vec_to_string.ensures c.in_ok-read_vec.ensures.reads
