use Rattle.speedy_layout.specs.Sequences.{so_many}
use Rattle.speedy_write.specs.Sequences.{is_sequence, first_refused, second_written}
use Rattle.speedy_write.proofs.OwnedLemmas.{borrowed_written}
use Rattle.speedy.specs.EncodedLists.{counted}
use Rattle.speedy.proofs.EncodedLemmas.{list_written}
use Rattle.speedy.proofs.encoded_lengths.EncodedListWriteTold.write_behind.Goals as goal

pub returns-in_err-write_number : goal.returns-in_err-write_number
returns-in_err-write_number g c =
    let it = c.args.self.now in
    let many = counted g.T.InPlace.in_place.codec it.order it.count it.bytes.now it.decoded in
    borrowed_written (first_refused is_sequence (so_many it.count it.decoded.0 many) c.from_residual.ensures.1
    (rw c.len.ensures.count at c.in_err-write_number.ensures))

pub returns : goal.returns
returns g c =
    let it = c.args.self.now in
    let codec = g.T.InPlace.in_place.codec in
    let many = counted codec it.order it.count it.bytes.now it.decoded in
    borrowed_written (second_written is_sequence (so_many it.count it.decoded.0 many) g.N.Prefix.numbers.codec.laws
    (g.met.W.Writer.additive _ _ _) (rw c.len.ensures.count at c.in_ok-write_number.ensures)
    (list_written codec.format it.count it.decoded.0 many c.write_items.ensures))
