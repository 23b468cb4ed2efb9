use Rattle.std.proofs.lemmas.List.{map-id}
use Rattle.speedy_read.specs.Codes.{refused_covered}
use Rattle.speedy_read.proofs.TextLemmas.{bytes_cover_text, text_decides}
use Rattle.speedy_read.proofs.lengths.CowStrReadOfLengthRefSliceU8.read_of_length.Goals as goal

pub returns-in_err-bytes : goal.returns-in_err-bytes
returns-in_err-bytes g c =
    refused_covered (bytes_cover_text _ _) c.from_residual.ensures.1 c.in_err-bytes.ensures.reads

pub returns : goal.returns
returns g c =
    text_decides _ _ (map-id _) c.cow_bytes_to_cow_str.ensures c.in_ok-bytes.ensures.reads
