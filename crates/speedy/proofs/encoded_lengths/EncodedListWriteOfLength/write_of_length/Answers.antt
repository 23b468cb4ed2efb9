use Rattle.std.proofs.Common.{refl, length}
use Rattle.speedy_write.proofs.OwnedLemmas.{borrowed_written}
use Rattle.speedy.proofs.EncodedLemmas.{list_written}
use Rattle.speedy.proofs.encoded_lengths.EncodedListWriteOfLength.write_of_length.Goals as goal

pub returns : goal.returns
returns g c =
    let items = c.args.self.now.decoded.0 in
    borrowed_written (list_written g.T.InPlace.in_place.codec.format (length items) items refl c.write_items.ensures)
